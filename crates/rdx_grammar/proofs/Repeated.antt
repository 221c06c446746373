-- Where no nonterminal is defined twice, the names are distinct.
use Rattle.std.proofs.Common.{◌≡◌, ℕ, Bool, true, false, List, [], ◌∷◌, None, map, refl, sym, subst}
use Rattle.std.specs.Prelude.{◌&&◌, not, bytes_eq}
use Rattle.std.specs.List.{list_any}
use Rattle.std.specs.Cmp.Lexicographic.{bytes_decides}
use Rattle.rdx_lang.specs.References.{is_among, are_distinct}
use Rattle.rdx_lang.specs.declared.pattern.Ref.TheVariants.{Nt}
use Rattle.rdx_grammar.specs.Checks.{is_seen, repeats}
use Rattle.rdx_patterns.specs.Parts.{text_of}
use Rattle.rdx_patterns.specs.Refusal.{named}
use Rattle.rdx_grammar.specs.Refused.{duplicate_at}
use Rattle.rdx_grammar.specs.Stands.{Stand, misshaped, defined, nonterminal, alternative, inherited}
use Rattle.rdx_patterns.specs.declared.shape.fault.DefKind.TheVariants.{Duplicate}
use Rattle.rdx_patterns.proofs.Booleans.{or_neither, not_and_true, not_and_both}
use Rattle.rdx_patterns.proofs.Firsts.{nothing, none_first}
use Rattle.rdx_grammar.proofs.FormNonterminals.{nonterminals_in}
use Rattle.rdx_patterns.proofs.Tests.{or_left, or_right}

-- none of these names comes among those before
abbrev pub are_new : List (List ℕ) → List (List ℕ) → Bool
are_new seen [] = true
are_new seen (x ∷ xs) = not (list_any (λ y. bytes_eq x y) seen) && are_new (x ∷ seen) xs

-- where nothing repeats, all are new
are_new-repeats : (seen : List (List ℕ)) (ss : List Stand) → repeats seen ss ≡ [] → are_new seen (nonterminals_in ss) ≡ true
are_new-repeats seen [] e = refl
are_new-repeats seen (misshaped d ∷ ss) e = are_new-repeats seen ss e
are_new-repeats seen (defined d ∷ ss) e = are_new-repeats seen ss e
are_new-repeats seen (nonterminal d ∷ ss) e =
    let f = none_first (is_seen seen d) d (repeats (text_of d ∷ seen) ss) e in
    not_and_both (is_seen seen d) (are_new (text_of d ∷ seen) (nonterminals_in ss)) f.0 (are_new-repeats (text_of d ∷ seen) ss f.1)
are_new-repeats seen (alternative os ∷ ss) e = are_new-repeats seen ss e
are_new-repeats seen (inherited d names again ∷ ss) e = are_new-repeats seen ss e

-- ---- new names are distinct

-- a name that was seen is another than one that wasn't
other : (seen : List (List ℕ)) (x y : List ℕ) (b : Bool) → b ≡ bytes_eq y x → list_any (λ s. bytes_eq y s) seen ≡ true → list_any (λ s. bytes_eq x s) seen ≡ false → b ≡ false
other seen x y true e f g =
    let h : y ≡ x = (bytes_decides y x).0 (sym e) in
    let k : list_any (λ s. bytes_eq x s) seen ≡ true = subst (λ (z : List ℕ). list_any (λ s. bytes_eq z s) seen ≡ true) h f in
    absurd cc
other seen x y false e f g = refl

-- what was seen doesn't come again
not_again : (seen xs : List (List ℕ)) (y : List ℕ) → list_any (λ s. bytes_eq y s) seen ≡ true → are_new seen xs ≡ true → is_among (Nt y) (map (λ x. Nt x) xs) ≡ false
not_again seen [] y e f = refl
not_again seen (x ∷ xs) y e f =
    let g = not_and_true (list_any (λ s. bytes_eq x s) seen) (are_new (x ∷ seen) xs) f in
    or_neither (bytes_eq y x) (is_among (Nt y) (map (λ z. Nt z) xs)) (other seen x y (bytes_eq y x) refl e g.0)
    (not_again (x ∷ seen) xs y (or_right (bytes_eq y x) (list_any (λ s. bytes_eq y s) seen) e) g.1)

-- new names are distinct
are_distinct-new : (seen xs : List (List ℕ)) → are_new seen xs ≡ true → are_distinct (map (λ x. Nt x) xs) ≡ true
are_distinct-new seen [] e = refl
are_distinct-new seen (x ∷ xs) e =
    let g = not_and_true (list_any (λ s. bytes_eq x s) seen) (are_new (x ∷ seen) xs) e in
    not_and_both (is_among (Nt x) (map (λ z. Nt z) xs)) (are_distinct (map (λ z. Nt z) xs))
    (not_again (x ∷ seen) xs x (or_left (bytes_eq x x) (list_any (λ s. bytes_eq x s) seen) ((bytes_decides x x).1 refl)) g.1)
    (are_distinct-new (x ∷ seen) xs g.1)

-- ---- what the check passes

-- the nonterminals that stand in a form that the check passes are distinct
pub are_distinct-nonterminals : (ss : List Stand) → duplicate_at ss ≡ None → are_distinct (map (λ x. Nt x) (nonterminals_in ss)) ≡ true
are_distinct-nonterminals ss e = are_distinct-new [] (nonterminals_in ss) (are_new-repeats [] ss (nothing (named Duplicate) (repeats [] ss) e))
