use Rattle.std.proofs.Common.{◌≡◌, ◌++◌, ◌∙◌, List, map, sym, ap}
use Rattle.std.proofs.lemmas.List.{map-append}
use Rattle.std.proofs.lemmas.Result.{IfOk-weaker}
use Rattle.rdx_lang.specs.Closures.{rule_names}
use Rattle.rdx_lang.specs.Depths.{Use, uses}
use Rattle.rdx_lang.specs.Inside.Capped.{capped, capped_uses, uses_in}
use Rattle.rdx_lang.specs.ProgramView.{extras_of, rule_of}
use Rattle.rdx_lang.specs.PatternView.{pattern_of}
use Rattle.rdx_lang.specs.Scopes.{extras_uses}
use Rattle.rdx_lang.proofs.CappedUses.{names-capped}
use Rattle.rdx_lang.proofs.program.Rule.names.Goals as goal

pub returns : goal.returns
returns c =
    let us : List Use = uses 0 (pattern_of c.pat.result.now) in
    let vs : List Use = extras_uses (extras_of c.deref.result.now) in
    let whole : uses_in c.deref-2.result.now ≡ capped_uses (us ++ vs) =
    ap uses_in c.deref-2.ensures.value ∙ c.in_ok-add_extras_uses.ensures
    ∙ ap (λ ws. ws ++ capped_uses vs) c.in_ok-add_uses.ensures
    ∙ ap (λ ws. uses_in ws ++ capped_uses us ++ capped_uses vs) c.new-uses.ensures.items
    ∙ sym (map-append capped us vs) in
    let named : map (λ (u : Use). u.name) (us ++ vs) ≡ rule_names (rule_of c.args.self.now) =
    (λ i. map (λ (u : Use). u.name) (uses 0 (c.pat.ensures i) ++ extras_uses (extras_of (c.deref.ensures.value i)))) in
    IfOk-weaker c.names_of.result _ _
    (λ names e. e ∙ ap (map (λ (u : Use). u.name)) whole ∙ names-capped (us ++ vs) ∙ named)
    c.names_of.ensures
