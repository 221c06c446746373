use Rattle.std.proofs.Common.{◌≡◌, ◌∙◌, ℕ, Bool, true, List, map, sym, ap, subst}
use Rattle.std.specs.BTreeMap.{insert_entry}
use Rattle.std.specs.Bool.{beq}
use Rattle.std.specs.Cmp.{unsigned_Decides}
use Rattle.std.specs.List.{list_all}
use Rattle.std.specs.Prelude.{nat_eq, ◌&&◌}
use Rattle.rdx_lang.specs.Depths.{Use, agree}
use Rattle.rdx_lang.specs.Collecting.{Adds}
use Rattle.rdx_lang.specs.Members.{In}
use Rattle.rdx_lang.specs.Met.{met, use_of}
use Rattle.rdx_lang.proofs.MetUses.{first_fails, agree-found, agree-absent, met-again, inserted-met, known_already, use_in, key_cmp}
use Rattle.rdx_lang.proofs.depths.Depths.meet.Goals as goal
use Rattle.rdx_lang.proofs.depths.Depths.meet.Goals.{then-depth-other, else-depth-other}

pub returns-after-depth-other-clause-fits : goal.returns-after-depth-other-clause-fits
returns-after-depth-other-clause-fits c =
    let k = c.new-key.result in
    let n = c.args.depth in
    let l = c.args.is_length in
    let v : ℕ × Bool = c.in-Some.field-0.now in
    let e : k.name ≡ c.args.name.now = c.new-key.ensures ∙ c.in_ok-share.ensures in
    let f : c.if-depth-other.result ≡ (nat_eq n v.0 && beq l v.1) =
    elim c.if-depth-other.branch [
      | then-depth-other w ↦ w.result-is ∙ ap (λ b. b && beq l v.1) (sym ((unsigned_Decides n v.0).1 w.if-depth-other.true))
      | else-depth-other w ↦ w.result-is ∙ first_fails n v.0 (beq l v.1) w.if-depth-other.false
    ] in
    f ∙ sym (agree-found k n l c.args.self.now.seen.entries v c.args.self.now.ordered (sym c.in-Some.ensures.value))
    ∙ ap (λ (x : List ℕ). list_all (agree (use_of x n l)) (met c.args.self.now)) e

pub returns-after-depth-other-clause-met : goal.returns-after-depth-other-clause-met
returns-after-depth-other-clause-met c h u =
    let k = c.new-key.result in
    let n = c.args.depth in
    let l = c.args.is_length in
    let before = met c.args.self.now in
    let e : k.name ≡ c.args.name.now = c.new-key.ensures ∙ c.in_ok-share.ensures in
    let a : list_all (agree (use_of k.name n l)) before ≡ true =
    ap (λ (x : List ℕ). list_all (agree (use_of x n l)) before) e ∙ sym (returns-after-depth-other-clause-fits c) ∙ h in
    let i : In (use_of k.name n l) before =
    met-again k n l c.args.self.now.seen.entries c.in-Some.field-0.now c.args.self.now.ordered (sym c.in-Some.ensures.value) a in
    known_already (use_of c.args.name.now n l) before (subst (λ (x : List ℕ). In (use_of x n l) before) e i) u

pub returns-in_ok-insert-in-None-clause-fits : goal.returns-in_ok-insert-in-None-clause-fits
returns-in_ok-insert-in-None-clause-fits c =
    let k = c.new-key.result in
    let e : k.name ≡ c.args.name.now = c.new-key.ensures ∙ c.in_ok-share.ensures in
    sym (agree-absent k c.args.depth c.args.is_length c.args.self.now.seen.entries (sym c.in-None.ensures.value))
    ∙ ap (λ (x : List ℕ). list_all (agree (use_of x c.args.depth c.args.is_length)) (met c.args.self.now)) e

pub returns-in_ok-insert-in-None-clause-met : goal.returns-in_ok-insert-in-None-clause-met
returns-in_ok-insert-in-None-clause-met c h u =
    let k = c.new-key.result in
    let e : k.name ≡ c.args.name.now = c.new-key.ensures ∙ c.in_ok-share.ensures in
    let before = c.args.self.now.seen.entries in
    let after = insert_entry key_cmp before k (c.args.depth, c.args.is_length) in
    let i = inserted-met k (c.args.depth, c.args.is_length) before (sym c.in-None.ensures.value) in
    subst (λ (us : List Use). Adds (λ w. w ≡ use_of c.args.name.now c.args.depth c.args.is_length) (met c.args.self.now) us)
    (ap (map use_in) (sym c.in_ok-insert-in-None.ensures.entries))
    (subst (λ (x : List ℕ). Adds (λ w. w ≡ use_of x c.args.depth c.args.is_length) (map use_in before) (map use_in after)) e i)
    u
