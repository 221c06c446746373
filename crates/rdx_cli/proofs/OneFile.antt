-- Where it is known what a source has left, one file is read from it.
use Rattle.std.proofs.Common.{◌≡◌, ℕ, ◌<◌, ◌≤◌, ◌⊎◌, inl, inr, List, [], ◌++◌, length, take, drop, None, Some, sym, ap, ◌∙◌, subst, arith, append-nil}
use Rattle.std.proofs.Math.Seq.{take-append_seam, drop-append_seam}
use Rattle.std.proofs.lemmas.Bool.{cases_lt}
use Rattle.std.proofs.lemmas.List.{take_all, drop_all}
use Rattle.std.specs.declared.option.Option.{Option}
use Rattle.rdx_cli.specs.Reading.{IsRead}

-- a front of n bytes, or a shorter one that leaves nothing, is the first n bytes, and leaves the others
first_bytes : (n : ℕ) (all bytes rest : List ℕ) → all ≡ bytes ++ rest → length bytes ≤ n →
    (length bytes < n → rest ≡ []) → (take n all ≡ bytes) × (drop n all ≡ rest)
first_bytes n all bytes rest e limit whole = of (cases_lt (length bytes) n)
  where
    of : (length bytes < n) ⊎ (n ≤ length bytes) → (take n all ≡ bytes) × (drop n all ≡ rest)
    of (inl h) =
        let none = whole h in
        let same : all ≡ bytes = e ∙ ap (λ l. bytes ++ l) none ∙ append-nil bytes in
        (ap (take n) same ∙ take_all n bytes limit, ap (drop n) same ∙ drop_all n bytes limit ∙ sym none)
    of (inr h) =
        let long : n ≡ length bytes = omega (arith, h, limit) in
        let same : all ≡ bytes ++ rest = e in (
          subst (λ k. take k all ≡ bytes) (sym long) (ap (take (length bytes)) same ∙ take-append_seam bytes rest),
          subst (λ k. drop k all ≡ rest) (sym long) (ap (drop (length bytes)) same ∙ drop-append_seam bytes rest),
        )

pub one_file : (all bytes other : List ℕ) (rest last : Option (List ℕ)) →
    IsRead (Some all) rest bytes → IsRead (Some all) last other → (bytes ≡ other) × (rest ≡ last)
one_file all bytes other None last a b = absurd a.front
one_file all bytes other (Some rest) None a b = absurd b.front
one_file all bytes other (Some rest) (Some last) a b =
    let one = first_bytes 1_048_577 all bytes rest a.front a.limit a.whole in
    let two = first_bytes 1_048_577 all other last b.front b.limit b.whole in
    (sym one.0 ∙ two.0, ap Some (sym one.1 ∙ two.1))
