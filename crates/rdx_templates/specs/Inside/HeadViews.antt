-- The heads of lists that values of the code stand for.
use Rattle.std.specs.Prelude.{◌≡◌, ℕ, Bool, false, ◌&&◌, List, codes, if◌then◌else◌}
use Rattle.rdx_sexp.specs.Sexp.{Sexp, Sexps, nil, cons}
use Rattle.rdx_patterns.specs.Parts.{is_word}
use Rattle.rdx_templates.specs.Bound.{Bound}
use Rattle.rdx_templates.specs.HostHeads.{HostHead, quoting, applying, all_of, some_of, miscounted, foreign}
use Rattle.rdx_templates.specs.Scope.{Scope}
use Rattle.rdx_templates.specs.TemplateHeads.{TemplateHead, filling, evaluating, splicing, calling, listing, is_called, is_pair}
use Rattle.rdx_templates.specs.declared.templates.heads.TemplateHead as code_head
use Rattle.rdx_templates.specs.declared.templates.heads.TemplateHead.TheVariants as heads
use Rattle.rdx_templates.specs.declared.templates.host_heads.HostHead as code_host_head
use Rattle.rdx_templates.specs.declared.templates.host_heads.HostHead.TheVariants as host_heads

-- what a head of the code is
abbrev pub template_head_view : code_head.TemplateHead → TemplateHead
template_head_view heads.Filling = filling
template_head_view heads.Evaluating = evaluating
template_head_view heads.Splicing = splicing
template_head_view (heads.Calling f) = calling
template_head_view heads.Listing = listing

-- the kind of a list whose head, which is d, is none of the words
abbrev pub other_head : Scope → Bound → Sexp → TemplateHead
other_head S bs d = if is_called S bs d then calling else listing

-- a list with this head calls the metafunction of this name, if it calls one
abbrev pub Calls : code_head.TemplateHead → List ℕ → Type 0
Calls heads.Filling x = Unit {0}
Calls heads.Evaluating x = Unit {0}
Calls heads.Splicing x = Unit {0}
Calls (heads.Calling f) x = f.now ≡ x
Calls heads.Listing x = Unit {0}

-- what a head of a host expression is
abbrev pub host_head_view : code_host_head.HostHead → HostHead
host_head_view host_heads.Quoting = quoting
host_head_view (host_heads.Applying op) = applying op
host_head_view host_heads.AllOf = all_of
host_head_view host_heads.SomeOf = some_of
host_head_view host_heads.Miscounted = miscounted
host_head_view host_heads.Foreign = foreign

-- the data begin with this word
abbrev pub is_headed : List ℕ → Sexps → Bool
is_headed x nil = false
is_headed x (cons d ds) = is_word x d

-- they are `unquote` and one datum behind it
abbrev pub is_evaluating : Sexps → Bool
is_evaluating ds = is_headed (codes "unquote") ds && is_pair ds
