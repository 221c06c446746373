-- What a list reaches, by its head: mostly what its items reach.
use Rattle.std.proofs.Common.{◌≡◌, ℕ, length, drop, Bool, true, false, List, [], ◌∷◌, Option, Some, None, max, refl, ap, sym, arith, if◌then◌else◌}
use Rattle.std.proofs.Math.Nat.{max-zero}
use Rattle.std.proofs.lemmas.Bool.{eqb-true}
use Rattle.std.specs.Prelude.{◌==◌, codes, bytes_eq}
use Rattle.rdx_sexp.specs.Sexp.{Sexp, Sexps, leaf, list, sexps, nil, cons, integer, truth, text, symbol, keyword}
use Rattle.rdx_lang.specs.Templates as model
use Rattle.rdx_lang.specs.Templates.{Template, lit, Items}
use Rattle.rdx_lang.specs.declared.operation.HostOp.{HostOp}
use Rattle.rdx_patterns.specs.Heads.{item, every, word, pattern}
use Rattle.rdx_patterns.specs.Parts.{is_word}
use Rattle.rdx_patterns.proofs.Booleans.{and_true}
use Rattle.rdx_templates.specs.Bound.{Bound}
use Rattle.rdx_templates.specs.HostHeads.{HostHead, quoting, applying, all_of, some_of, miscounted, count, operation_head, host_head}
use Rattle.rdx_templates.specs.Reach.{reach, reach_among, reach_in, reach_in_all}
use Rattle.rdx_delta.specs.Operations.{operation_named, takes}
use Rattle.rdx_templates.specs.Scope.{Scope}
use Rattle.rdx_templates.specs.TemplateHeads.{TemplateHead, filling, evaluating, splicing, calling, listing, is_pair, is_called, template_head}
use Rattle.rdx_templates.specs.TemplateReading.{with_template, filled_by, hosted, quoted, template_reading, templates_among, host_reading, hosts_behind}

-- ---- how many data such lists have

-- `unquote` has one datum behind it, where it means something
evaluating_pair : (a b c e : Bool) → (let h : TemplateHead = if a then filling else if b then evaluating else if c then splicing else if e then calling else listing in h) ≡ evaluating → b ≡ true
evaluating_pair true b c e h = absurd cc
evaluating_pair false true c e h = refl
evaluating_pair false false true e h = absurd cc
evaluating_pair false false false true h = absurd cc
evaluating_pair false false false false h = absurd cc

pub evaluating-pair : (S : Scope) (bs : Bound) (ds : Sexps) → template_head S bs ds ≡ evaluating → is_pair ds ≡ true
evaluating-pair S bs nil h = absurd cc
evaluating-pair S bs (cons d ds) h =
    (and_true (is_word (codes "unquote") d) (is_pair (cons d ds))
    (evaluating_pair (is_word (codes "in-hole") d) _ (is_word (codes "unquote-splicing") d) (is_called S bs d) h)).1

-- an operation is not `term`
not_quoting : (o : Option HostOp) (n : ℕ) → operation_head o n ≡ quoting → ⊥
not_quoting None n e = absurd cc
not_quoting (Some op) n e = by_test (takes op n) e
  where
    by_test : (b : Bool) → (let h : HostHead = if b then applying op else miscounted in h) ≡ quoting → ⊥
    by_test true f = absurd cc
    by_test false f = absurd cc

-- neither is `and` or `or`
quoting_one : (a b c : Bool) (n : ℕ) (o : Option HostOp)
    → (let h : HostHead = if a then (if n == 1 then quoting else miscounted) else if b then all_of else if c then some_of else operation_head o n in h) ≡ quoting
    → (n == 1) ≡ true
quoting_one true b c n o e = by_test (n == 1) e
  where
    by_test : (t : Bool) → (let h : HostHead = if t then quoting else miscounted in h) ≡ quoting → t ≡ true
    by_test true f = refl
    by_test false f = absurd cc
quoting_one false true c n o e = absurd cc
quoting_one false false true n o e = absurd cc
quoting_one false false false n o e = absurd (not_quoting o n e)

-- another number is not one
by_length : (n : ℕ) → (n ≡ 1 → ⊥) → (n == 1) ≡ true → ⊥
by_length n k e = k (eqb-true n 1 e)

-- one datum behind a head
one_behind : (d : Sexp) (ds : Sexps) → (count ds == 1) ≡ true → is_pair (cons d ds) ≡ true
one_behind d nil e = absurd (by_length 0 (omega arith) e)
one_behind d (cons a nil) e = refl
one_behind d (cons a (cons b ds)) e = absurd (by_length (count (cons a (cons b ds))) (omega arith) e)

pub quoting-pair : (ds : Sexps) → host_head ds ≡ quoting → is_pair ds ≡ true
quoting-pair nil e = absurd cc
quoting-pair (cons (leaf (integer n) s) ds) e = absurd cc
quoting-pair (cons (leaf (truth b) s) ds) e = absurd cc
quoting-pair (cons (leaf (text t) s) ds) e = absurd cc
quoting-pair (cons (leaf (symbol x) s) ds) e =
    one_behind (leaf (symbol x) s) ds
    (quoting_one (bytes_eq x (codes "term")) (bytes_eq x (codes "and")) (bytes_eq x (codes "or")) (count ds) (operation_named x) e)
quoting-pair (cons (leaf (keyword k) s) ds) e = absurd cc
quoting-pair (cons (list cs s) ds) e = absurd cc

-- ---- what they reach

module _ (S : Scope) (bs : Bound) where
  -- a context and what fills it
  pub filled-reach : (ds : List Sexp) → length ds ≡ 3
      → reach (filled_by (templates_among S bs (item word (every pattern)) (sexps ds))) ≡ reach_among (templates_among S bs (every pattern) (sexps (drop 1 ds)))
  filled-reach [] e = absurd (omega (arith, e))
  filled-reach (a ∷ []) e = absurd (omega (arith, e))
  filled-reach (a ∷ b ∷ []) e = absurd (omega (arith, e))
  filled-reach (a ∷ b ∷ c ∷ []) e = ap (max (reach (template_reading S bs b))) (sym (max-zero (reach (template_reading S bs c))))
  filled-reach (a ∷ b ∷ c ∷ d ∷ ds) e = absurd (omega (arith, e))

  -- a third item
  third_refused : (b : Bool) (c t u : Template) (ts : Items) → reach (filled_by (model.one c (model.one t (with_template b u ts)))) ≡ 0
  third_refused true c t u ts = refl
  third_refused false c t u ts = refl

  -- another number of items, which means nothing
  pub unfilled-reach : (ds : List Sexp) → (length ds ≡ 3 → ⊥) → reach (filled_by (templates_among S bs (item word (every pattern)) (sexps ds))) ≡ 0
  unfilled-reach [] n = refl
  unfilled-reach (a ∷ []) n = refl
  unfilled-reach (a ∷ b ∷ []) n = refl
  unfilled-reach (a ∷ b ∷ c ∷ []) n = absurd (n refl)
  unfilled-reach (a ∷ b ∷ c ∷ d ∷ ds) n = third_refused _ (template_reading S bs b) (template_reading S bs c) (template_reading S bs d) _

  -- a host expression
  pub hosted-reach : (ds : Sexps) → is_pair ds ≡ true → reach (hosted (hosts_behind S bs ds)) ≡ reach_in_all (hosts_behind S bs ds)
  hosted-reach nil e = absurd cc
  hosted-reach (cons a nil) e = absurd cc
  hosted-reach (cons a (cons b nil)) e = sym (max-zero (reach_in (host_reading S bs b)))
  hosted-reach (cons a (cons b (cons c ds))) e = absurd cc

  -- a template behind `term`
  pub quoted-reach : (ds : List Sexp) → is_pair (sexps ds) ≡ true
      → reach_in (quoted (templates_among S bs (item word (every pattern)) (sexps ds))) ≡ reach_among (templates_among S bs (every pattern) (sexps (drop 1 ds)))
  quoted-reach [] e = absurd cc
  quoted-reach (a ∷ []) e = absurd cc
  quoted-reach (a ∷ b ∷ []) e = sym (max-zero (reach (template_reading S bs b)))
  quoted-reach (a ∷ b ∷ c ∷ ds) e = absurd cc
