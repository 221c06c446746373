use Rattle.std.proofs.Common.{◌≡◌, ◌⊎◌, inl, inr, ◌∷◌, ℕ, true, List, [], get_or, take, subst, sym, ◌∙◌, ap}
use Rattle.rdx_lang.specs.Members.{In}
use Rattle.rdx_lang.proofs.Collecting.{only}
use Rattle.rdx_lang.proofs.MemberLaws.{in-append}
use Rattle.rdx_nodes.specs.Inside.Once.{bytes_of, is_once}
use Rattle.rdx_nodes.proofs.OnceTold.{places_next, places_end}
use Rattle.rdx_nodes.proofs.once.Once.has_all.Goals as goal

pub loop-place-preserved : goal.loop-place-preserved
loop-place-preserved c x h =
    by_side (in-append (bytes_of (take i c.args.places.now)) (z ∷ []) x (subst (λ (zs : List (List ℕ)). In x zs)
    (places_next c.args.places.now i (record { ref_ptr = (0, 0); now = [] }) c.loop-place-test.true) h))
  where
    i : ℕ
    i = c.loop-place.place-index

    z : List ℕ
    z = (get_or c.args.places.now c.loop-place.place-index (record { ref_ptr = (0, 0); now = [] })).now

    by_side : In x (bytes_of (take i c.args.places.now)) ⊎ In x (z ∷ []) → is_once c.args.self.now.told x ≡ true
    by_side (inl k) = c.loop-place.invariant x k
    by_side (inr k) = ap (is_once c.args.self.now.told) (only k) ∙ sym c.has.ensures ∙ c.if-not-has.false

pub returns : goal.returns
returns c t x h =
    c.loop-place.invariant x (subst (λ (zs : List (List ℕ)). In x zs)
    (sym (places_end c.args.places.now c.loop-place.place-index c.loop-place-test.false)) h)
