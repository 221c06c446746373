-- Cross nonterminals to several ends are those that the language lacks to each, once.
use Rattle.std.proofs.Common.{◌≡◌, ℕ, ◌⊎◌, inl, inr, Bool, true, false, List, [], ◌∷◌, ◌++◌, drop, length, get_or, ◌+◌, ◌<◌, ◌≤◌, refl, ap, sym, ◌∙◌, subst, append_assoc, arith, if◌then◌else◌}
use Rattle.std.proofs.Math.Bool.{and-false, or-false}
use Rattle.std.proofs.lemmas.Bool.{or_cases}
use Rattle.std.proofs.lemmas.List.{append-nil, drop_all, length-append, nil_from_length}
use Rattle.std.specs.Cmp.Lexicographic.{bytes_decides}
use Rattle.std.specs.List.{list_any}
use Rattle.std.specs.Prelude.{◌&&◌, ◌||◌, flat_map, bytes_eq}
use Rattle.rdx_lang.proofs.CrossesAgain.{crosses_once}
use Rattle.rdx_lang.proofs.DefinedNonterminals.{defined-more}
use Rattle.rdx_lang.proofs.NewCrosses.{in-plain_names, plain_names-among, cross-defined}
use Rattle.rdx_lang.specs.Crosses.{cross_alternatives, crossed_alternatives, plain_name, plain_names, new_cross, new_crosses, with_crosses, with_crosses_to}
use Rattle.rdx_lang.specs.Lookup.{alternatives_among, alternatives_of}
use Rattle.rdx_lang.specs.Members.{In}
use Rattle.rdx_lang.specs.Patterns.{hole, Definition, Language}
use Rattle.rdx_lang.specs.References.{is_same, is_among}
use Rattle.rdx_lang.specs.WellFormed.{defined}
use Rattle.rdx_lang.specs.declared.pattern.Ref.{Ref}
use Rattle.rdx_lang.specs.declared.pattern.Ref.TheVariants.{Nt, Cross}
use Rattle.rdx_patterns.specs.Found.{heads}
use Rattle.rdx_patterns.specs.Inside.CrossesTo.{language_among, crosses_after, with_definitions}
use Rattle.rdx_patterns.specs.Inside.Repeats.{HaveSame}
use Rattle.rdx_patterns.proofs.Booleans.{or_or, or_neither, or_false}
use Rattle.rdx_patterns.proofs.Rests.{drop-at}

-- ---- definitions put behind others

-- what is among the nonterminals of both
pub among-both : (x : Ref) (ds es : List Definition) → is_among x (heads (ds ++ es)) ≡ (is_among x (heads ds) || is_among x (heads es))
among-both x [] es = refl
among-both x (d ∷ ds) es = ap (λ b. is_same x d.0 || b) (among-both x ds es) ∙ or_or (is_same x d.0) (is_among x (heads ds)) (is_among x (heads es))

-- where the ones behind have no alternatives of a nonterminal, it has those that it had
alternatives-both : (x : Ref) (ds es : List Definition) → alternatives_among es x ≡ [] → alternatives_among (ds ++ es) x ≡ alternatives_among ds x
alternatives-both x [] es e = e
alternatives-both x (d ∷ ds) es e = ap (λ ps. if is_same x d.0 then d.1 else ps) (alternatives-both x ds es e)

-- ---- the definitions that are added

-- they give no alternative to what is no cross nonterminal
none-of-plain : (L : Language) (y : List ℕ) (z : List ℕ) (xs : List (List ℕ)) → alternatives_among (flat_map (new_cross L y) xs) (Nt z) ≡ []
none-of-plain L y z [] = refl
none-of-plain L y z (x ∷ xs) = by_test (is_among (Cross x y) (defined L)) (none-of-plain L y z xs)
  where
    rest : List Definition
    rest = flat_map (new_cross L y) xs

    by_test : (b : Bool) → alternatives_among rest (Nt z) ≡ []
        → alternatives_among ((if b then [] else (Cross x y, cross_alternatives L x y) ∷ []) ++ rest) (Nt z) ≡ []
    by_test true e = e
    by_test false e = e

-- none is a cross nonterminal to another end
none-to-other : (L : Language) (y z w : List ℕ) (xs : List (List ℕ)) → bytes_eq y z ≡ false
    → is_among (Cross w y) (heads (flat_map (new_cross L z) xs)) ≡ false
none-to-other L y z w [] e = refl
none-to-other L y z w (x ∷ xs) e = by_test (is_among (Cross x z) (defined L)) (none-to-other L y z w xs e)
  where
    rest : List Definition
    rest = flat_map (new_cross L z) xs

    by_test : (b : Bool) → is_among (Cross w y) (heads rest) ≡ false
        → is_among (Cross w y) (heads ((if b then [] else (Cross x z, cross_alternatives L x z) ∷ []) ++ rest)) ≡ false
    by_test true f = f
    by_test false f = or_neither (bytes_eq w x && bytes_eq y z) (is_among (Cross w y) (heads rest)) (ap (λ c. bytes_eq w x && c) e ∙ and-false (bytes_eq w x)) f

-- two languages with the same alternatives of x, and of which both or none have the cross nonterminal, get the same
pub same-new : (L M : Language) (y x : List ℕ) → is_among (Cross x y) (defined M) ≡ is_among (Cross x y) (defined L)
    → alternatives_of M (Nt x) ≡ alternatives_of L (Nt x) → new_cross M y x ≡ new_cross L y x
same-new L M y x e f =
    ap (λ b. if b then [] else (Cross x y, cross_alternatives M x y) ∷ []) e
    ∙ ap (λ ps. if is_among (Cross x y) (defined L) then [] else (Cross x y, (if bytes_eq x y then hole ∷ [] else []) ++ crossed_alternatives y ps) ∷ []) f

-- so for all these
same-new-all : (L M : Language) (y : List ℕ) (xs : List (List ℕ)) → ((x : List ℕ) → is_among (Cross x y) (defined M) ≡ is_among (Cross x y) (defined L))
    → ((x : List ℕ) → alternatives_of M (Nt x) ≡ alternatives_of L (Nt x)) → flat_map (new_cross M y) xs ≡ flat_map (new_cross L y) xs
same-new-all L M y [] f g = refl
same-new-all L M y (x ∷ xs) f g = λ i. same-new L M y x (f x) (g x) i ++ same-new-all L M y xs f g i

-- ---- a language on the way

-- M is L with all cross nonterminals to what was seen, and with no others
pub record IsOnTheWay (L M : Language) (seen : List (List ℕ)) : Type 0 where
  pub plain : plain_names M ≡ plain_names L
  pub alternatives : (x : List ℕ) → alternatives_of M (Nt x) ≡ alternatives_of L (Nt x)
  pub there_are : (y : List ℕ) → list_any (bytes_eq y) seen ≡ true → (x : List ℕ) → In x (plain_names M) → is_among (Cross x y) (defined M) ≡ true
  pub unchanged : (y : List ℕ) → list_any (bytes_eq y) seen ≡ false → (x : List ℕ) → is_among (Cross x y) (defined M) ≡ is_among (Cross x y) (defined L)

-- at the start nothing was seen
pub at-start : (L : Language) → IsOnTheWay L L []
at-start L = record { plain = refl; alternatives = λ x. refl; there_are = λ y e x i. absurd cc; unchanged = λ y e x. refl }

-- nothing is put behind where the whole stays the same
nothing-behind : (ds es : List Definition) → ds ++ es ≡ ds → es ≡ []
nothing-behind ds es e = nil_from_length es (let f = length-append ds es in let g = ap length e in omega (arith, f, g))

-- it gets nothing for an end that was seen
none-again : (L M : Language) (seen : List (List ℕ)) → IsOnTheWay L M seen → (y : List ℕ) → list_any (bytes_eq y) seen ≡ true → new_crosses M y ≡ []
none-again L M seen w y e =
    nothing-behind M.nonterminals (new_crosses M y)
    (ap (λ (K : Language). K.nonterminals) (crosses_once M y (λ x i. w.there_are y e x (in-plain_names x (defined M) i))))

-- what it gets next
pub next-new : (L M : Language) (seen : List (List ℕ)) → IsOnTheWay L M seen → (y : List ℕ)
    → new_crosses M y ≡ (if list_any (bytes_eq y) seen then [] else new_crosses L y)
next-new L M seen w y = by_test (list_any (bytes_eq y) seen) refl
  where
    by_test : (b : Bool) → list_any (bytes_eq y) seen ≡ b → new_crosses M y ≡ (if b then [] else new_crosses L y)
    by_test true e = none-again L M seen w y e
    by_test false e = same-new-all L M y (plain_names M) (w.unchanged y e) w.alternatives ∙ ap (flat_map (new_cross L y)) w.plain

-- what is added is of no plain nonterminal
no-names : (M : Language) (y : List ℕ) (xs : List (List ℕ)) → flat_map plain_name (heads (flat_map (new_cross M y) xs)) ≡ []
no-names M y [] = refl
no-names M y (x ∷ xs) = by_test (is_among (Cross x y) (defined M)) (no-names M y xs)
  where
    rest : List Definition
    rest = flat_map (new_cross M y) xs

    by_test : (b : Bool) → flat_map plain_name (heads rest) ≡ []
        → flat_map plain_name (heads ((if b then [] else (Cross x y, cross_alternatives M x y) ∷ []) ++ rest)) ≡ []
    by_test true e = e
    by_test false e = e

-- definitions of no plain nonterminal, put behind others, bring no name
names-both : (ds es : List Definition) → flat_map plain_name (heads es) ≡ [] → flat_map plain_name (heads (ds ++ es)) ≡ flat_map plain_name (heads ds)
names-both [] es e = e
names-both (d ∷ ds) es e = ap (λ xs. plain_name d.0 ++ xs) (names-both ds es e)

-- with what it lacks to one end more from some it is on the way, if it has all to that end then
pub some-more : (L M : Language) (seen : List (List ℕ)) (y : List ℕ) (xs : List (List ℕ)) → IsOnTheWay L M seen
    → ((x : List ℕ) → In x (plain_names M) → is_among (Cross x y) (defined (with_definitions M (flat_map (new_cross M y) xs))) ≡ true)
    → IsOnTheWay L (with_definitions M (flat_map (new_cross M y) xs)) (y ∷ seen)
some-more L M seen y xs w all = record {
  plain = stay ∙ w.plain;
  alternatives = λ x. alternatives-both (Nt x) M.nonterminals new (none-of-plain M y x xs) ∙ w.alternatives x;
  there_are = λ z e x i. there-all z x (subst (λ (ns : List (List ℕ)). In x ns) stay i) (or_cases (bytes_eq z y) (list_any (bytes_eq z) seen) e);
  unchanged = λ z e x.
      let f = or_false (bytes_eq z y) (list_any (bytes_eq z) seen) e in
      among-both (Cross x z) M.nonterminals new
      ∙ ap (λ b. is_among (Cross x z) (defined M) || b) (none-to-other M z y x xs f.0)
      ∙ or-false (is_among (Cross x z) (defined M)) ∙ w.unchanged z f.1 x;
}
  where
    new : List Definition
    new = flat_map (new_cross M y) xs

    stay : plain_names (with_definitions M new) ≡ plain_names M
    stay = names-both M.nonterminals new (no-names M y xs)

    there-all : (z x : List ℕ) → In x (plain_names M) → (bytes_eq z y ≡ true) ⊎ (list_any (bytes_eq z) seen ≡ true)
        → is_among (Cross x z) (defined (with_definitions M new)) ≡ true
    there-all z x i (inl e) =
        ap (λ (v : List ℕ). is_among (Cross x v) (defined (with_definitions M new))) ((bytes_decides z y).0 e) ∙ all x i
    there-all z x i (inr e) = defined-more M.nonterminals new (Cross x z) (w.there_are z e x i)

-- so with all to one end more
pub one-more : (L M : Language) (seen : List (List ℕ)) (y : List ℕ) → IsOnTheWay L M seen → IsOnTheWay L (with_crosses M y) (y ∷ seen)
one-more L M seen y w = some-more L M seen y (plain_names M) w (λ x i. cross-defined M y x (plain_names-among x (defined M) i))

-- ---- all ends

-- what comes to a language on the way
ends-after : (L M : Language) (seen ys : List (List ℕ)) → IsOnTheWay L M seen
    → with_crosses_to M ys ≡ with_definitions M (crosses_after L.nonterminals seen ys)
ends-after L M seen [] w = ap (λ ds. record M { nonterminals = ds }) (sym (append-nil M.nonterminals))
ends-after L M seen (y ∷ ys) w =
    ends-after L (with_crosses M y) (y ∷ seen) ys (one-more L M seen y w)
    ∙ ap (λ ds. record M { nonterminals = ds }) (append_assoc M.nonterminals (new_crosses M y) (crosses_after L.nonterminals (y ∷ seen) ys)
    ∙ ap (λ ds. M.nonterminals ++ (ds ++ crosses_after L.nonterminals (y ∷ seen) ys)) (next-new L M seen w y))

-- a language with cross nonterminals to these has what it lacks to each, once
pub several-ends : (L : Language) (ys : List (List ℕ)) → with_crosses_to L ys ≡ with_definitions L (crosses_after L.nonterminals [] ys)
several-ends L ys = ends-after L L [] ys (at-start L)

-- ---- what was seen

-- it depends on the texts alone that were seen
pub crosses-same : (ds : List Definition) (xs zs ys : List (List ℕ)) → HaveSame xs zs → crosses_after ds xs ys ≡ crosses_after ds zs ys
crosses-same ds xs zs [] h = refl
crosses-same ds xs zs (y ∷ ys) h = λ i.
    (if h y i then [] else new_crosses (language_among ds) y) ++ crosses-same ds (y ∷ xs) (y ∷ zs) ys (λ x. ap (λ b. bytes_eq x y || b) (h x)) i

-- ---- a loop over the ends

-- the next end, where new has what was there and what the definitions lack to that end, if it wasn't seen
pub crosses-next : (ds : List Definition) (ends : List (List ℕ)) (i : ℕ) (y : List ℕ) (seen seen' : List (List ℕ)) (old new all : List Definition)
    → i < length ends → y ≡ get_or ends i y → new ≡ old ++ (if list_any (bytes_eq y) seen then [] else new_crosses (language_among ds) y)
    → HaveSame seen' (y ∷ seen) → old ++ crosses_after ds seen (drop i ends) ≡ all → new ++ crosses_after ds seen' (drop (i + 1) ends) ≡ all
crosses-next ds ends i y seen seen' old new all h e f g k =
    let rest = drop (i + 1) ends in
    let now : List Definition = if list_any (bytes_eq y) seen then [] else new_crosses (language_among ds) y in
    ap (λ es. es ++ crosses_after ds seen' rest) f ∙ append_assoc old now (crosses_after ds seen' rest)
    ∙ ap (λ es. old ++ (now ++ es)) (crosses-same ds seen' (y ∷ seen) rest g)
    ∙ ap (λ ys. old ++ crosses_after ds seen ys) (sym (drop-at ends i y h e)) ∙ k

-- behind the last end nothing is left
pub crosses-last : (ds : List Definition) (ends : List (List ℕ)) (i : ℕ) (seen : List (List ℕ)) (old all : List Definition)
    → length ends ≤ i → old ++ crosses_after ds seen (drop i ends) ≡ all → old ≡ all
crosses-last ds ends i seen old all h k =
    sym (append-nil old) ∙ ap (λ ys. old ++ crosses_after ds seen ys) (sym (drop_all i ends h)) ∙ k
