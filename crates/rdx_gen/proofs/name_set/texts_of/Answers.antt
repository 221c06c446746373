use Rattle.std.proofs.Common.{◌≡◌, ◌+◌, ◌-◌, ◌<◌, ◌||◌, ℕ, Bool, true, false, cond, List, length, drop, map, refl, sym, ap, ◌∙◌, arith, Bor}
use Rattle.std.proofs.lemmas.Grind.{common_steps}
use Rattle.std.specs.HashSet.{contains_by}
use Rattle.std.specs.Prelude.{bytes_eq}
use Rattle.rdx_lang.proofs.Rest.{rest_at}
use Rattle.rdx_lang.specs.Rules.{is_one_of}
use Rattle.rdx_gen.proofs.name_set.texts_of.Goals as goal

so_or : (a b : Bool) → cond a true b ≡ (a || b)
so_or true b = refl
so_or false b = refl

pub loop-i-preserved : goal.loop-i-preserved
loop-i-preserved c x =
    let rs : List (Bor (List ℕ)) = c.args.names.now in
    let i : ℕ = c.loop-i.i - 1 in
    let k : i + 1 ≡ c.loop-i.i = omega arith in
    let l : i < length rs = grind (arith, common_steps) in
    let b : Bor (List ℕ) = c.index-names-i.result in
    let t : c.text.result.now ≡ b.now = c.text.ensures.value in
    let q : Bor (List ℕ) = record { ref_ptr = c.text.result.ref_ptr; now = x } in
    let o : Bool = contains_by (λ (y : Bor (List ℕ)). bytes_eq x y.now) c.loop-i.texts in
    c.in_ok-insert.ensures.updates.0 q
    ∙ so_or (bytes_eq c.text.result.now x) o
    ∙ (λ j. bytes_eq (t j) x || (c.loop-i.invariant x ∙ ap (λ n. is_one_of (map (λ (r : Bor (List ℕ)). r.now) (drop n rs)) x) (sym k)) j)
    ∙ ap (λ (ss : List (List ℕ)). is_one_of ss x) (sym (rest_at (λ (r : Bor (List ℕ)). r.now) rs i b l c.index-names-i.is))
