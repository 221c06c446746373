-- What several cross nonterminals need is what the language lacks to each end, once, and those of them that lead from no nonterminal of it.
use Rattle.std.proofs.Common.{◌≡◌, ℕ, Bool, true, false, List, [], ◌∷◌, ◌++◌, drop, length, get_or, ◌+◌, ◌<◌, ◌≤◌, refl, ap, sym, ◌∙◌, subst, append_assoc, if◌then◌else◌}
use Rattle.std.proofs.lemmas.List.{append-nil, drop_all}
use Rattle.std.specs.Cmp.Lexicographic.{bytes_decides}
use Rattle.std.specs.List.{list_any}
use Rattle.std.specs.Prelude.{◌||◌, flat_map, bytes_eq}
use Rattle.rdx_lang.proofs.DefinedNonterminals.{defined-more}
use Rattle.rdx_lang.proofs.NewCrosses.{in-plain_names}
use Rattle.rdx_lang.specs.Crosses.{cross_alternatives, plain_names, new_cross, new_crosses, with_crosses, Way, with_cross, with_ways}
use Rattle.rdx_lang.specs.Members.{In}
use Rattle.rdx_lang.specs.Patterns.{Definition, Language}
use Rattle.rdx_lang.specs.References.{is_among}
use Rattle.rdx_lang.specs.WellFormed.{defined}
use Rattle.rdx_lang.specs.declared.pattern.Ref.TheVariants.{Nt, Cross}
use Rattle.rdx_patterns.specs.Found.{heads}
use Rattle.rdx_patterns.specs.Inside.CrossesTo.{language_among, with_definitions}
use Rattle.rdx_patterns.specs.Inside.Repeats.{HaveSame}
use Rattle.rdx_patterns.proofs.Rests.{drop-at}
use Rattle.rdx_patterns.proofs.SeveralEnds.{among-both, same-new, IsOnTheWay, at-start, next-new, some-more, one-more}

-- ---- tests

-- an end is among those of which it is the first
first-among : (y : List ℕ) (seen : List (List ℕ)) → list_any (bytes_eq y) (y ∷ seen) ≡ true
first-among y seen = ap (λ b. b || list_any (bytes_eq y) seen) ((bytes_decides y y).1 refl)

-- what comes twice in front is there once
or_again : (a b : Bool) → (a || (a || b)) ≡ (a || b)
or_again true b = refl
or_again false b = refl

-- a language on the way is so for all ends that were seen in some order
same-seen : (L M : Language) (xs zs : List (List ℕ)) → HaveSame xs zs → IsOnTheWay L M zs → IsOnTheWay L M xs
same-seen L M xs zs h w = record {
  plain = w.plain;
  alternatives = w.alternatives;
  there_are = λ y e. w.there_are y (sym (h y) ∙ e);
  unchanged = λ y e. w.unchanged y (sym (h y) ∙ e);
}

-- ---- the cross nonterminal itself, behind all others to its end

-- what is lacked from x to an end that was seen, beside definitions that are on the way
abbrev lacked_from : Language → List Definition → List ℕ → List ℕ → List Definition
lacked_from L ds y x = if is_among (Nt x) (defined L) || is_among (Cross x y) (heads ds) then [] else new_cross L y x

-- where it is there nothing is added
none-new : (M : Language) (y x : List ℕ) → is_among (Cross x y) (defined M) ≡ true → new_cross M y x ≡ []
none-new M y x e = ap (λ (b : Bool). if b then [] else (Cross x y, cross_alternatives M x y) ∷ []) e

-- from a nonterminal it is there
lacks-none : (L M : Language) (seen : List (List ℕ)) (y x : List ℕ) → IsOnTheWay L M seen → list_any (bytes_eq y) seen ≡ true
    → is_among (Nt x) (defined L) ≡ true → new_cross M y x ≡ []
lacks-none L M seen y x w e h =
    none-new M y x (w.there_are y e x (subst (λ (xs : List (List ℕ)). In x xs) (sym w.plain) (in-plain_names x (defined L) h)))

-- what it gets is what the first language lacks, unless it is there
lacks-next : (L : Language) (ds : List Definition) (seen : List (List ℕ)) (y x : List ℕ) → IsOnTheWay L (with_definitions L ds) seen
    → list_any (bytes_eq y) seen ≡ true → new_cross (with_definitions L ds) y x ≡ lacked_from L ds y x
lacks-next L ds seen y x w e = by_name (is_among (Nt x) (defined L)) refl
  where
    M : Language
    M = with_definitions L ds

    both : is_among (Cross x y) (defined M) ≡ (is_among (Cross x y) (defined L) || is_among (Cross x y) (heads ds))
    both = among-both (Cross x y) L.nonterminals ds

    or_any : (a : Bool) → (a || true) ≡ true
    or_any true = refl
    or_any false = refl

    or_none : (a : Bool) → (a || false) ≡ a
    or_none true = refl
    or_none false = refl

    by_added : (b : Bool) → is_among (Cross x y) (heads ds) ≡ b → new_cross M y x ≡ (if b then [] else new_cross L y x)
    by_added true f = none-new M y x (both ∙ ap (λ b. is_among (Cross x y) (defined L) || b) f ∙ or_any (is_among (Cross x y) (defined L)))
    by_added false f =
        same-new L M y x (both ∙ ap (λ b. is_among (Cross x y) (defined L) || b) f ∙ or_none (is_among (Cross x y) (defined L)))
        (w.alternatives x)

    by_name : (b : Bool) → is_among (Nt x) (defined L) ≡ b
        → new_cross M y x ≡ (if b || is_among (Cross x y) (heads ds) then [] else new_cross L y x)
    by_name true f = lacks-none L M seen y x w e f
    by_name false f = by_added (is_among (Cross x y) (heads ds)) refl

-- with it the language is on the way
one-way : (L M : Language) (seen : List (List ℕ)) (w : Way) → IsOnTheWay L M (w.1 ∷ seen) → IsOnTheWay L (with_cross M w) (w.1 ∷ seen)
one-way L M seen w on =
    let y = w.1 in
    let new = new_cross M y w.0 in
    let alone : flat_map (new_cross M y) (w.0 ∷ []) ≡ new = append-nil new in
    let all : (x : List ℕ) → In x (plain_names M) → is_among (Cross x y) (defined (with_definitions M (flat_map (new_cross M y) (w.0 ∷ [])))) ≡ true =
    λ x i. defined-more M.nonterminals (flat_map (new_cross M y) (w.0 ∷ [])) (Cross x y) (on.there_are y (first-among y seen) x i) in
    same-seen L (with_cross M w) (y ∷ seen) (y ∷ y ∷ seen) (λ x. sym (or_again (bytes_eq x y) (list_any (bytes_eq x) seen)))
    (subst (λ es. IsOnTheWay L (with_definitions M es) (y ∷ y ∷ seen)) alone (some-more L M (y ∷ seen) y (w.0 ∷ []) on all))

-- ---- a loop over ways

-- So far the language has what those need that were passed, and what all need is what the rest needs of it.
pub record HasPassed (L : Language) (ds : List Definition) (seen : List (List ℕ)) (rest all : List Way) : Type 0 where
  pub on_the_way : IsOnTheWay L (with_definitions L ds) seen
  pub behind : with_ways (with_definitions L ds) rest ≡ with_ways L all

-- with nothing behind it a language stays the same
with-none : (L : Language) → with_definitions L [] ≡ L
with-none L = ap (λ ds. record L { nonterminals = ds }) (append-nil L.nonterminals)

-- at the start
pub passed-none : (L : Language) (ws : List Way) → HasPassed L [] [] ws ws
passed-none L ws = record {
  on_the_way = subst (λ (M : Language). IsOnTheWay L M []) (sym (with-none L)) (at-start L);
  behind = ap (λ (M : Language). with_ways M ws) (with-none L);
}

-- what it lacks to the end of the next one
abbrev pub lacked_to : List Definition → List (List ℕ) → List ℕ → List Definition
lacked_to ds seen y = if list_any (bytes_eq y) seen then [] else new_crosses (language_among ds) y

-- with what the next one needs
passed-way : (L : Language) (old : List Definition) (seen seen' : List (List ℕ)) (w : Way) (rest all : List Way)
    → HaveSame seen' (w.1 ∷ seen) → HasPassed L old seen (w ∷ rest) all
    → HasPassed L ((old ++ lacked_to L.nonterminals seen w.1) ++ lacked_from L (old ++ lacked_to L.nonterminals seen w.1) w.1 w.0) seen' rest all
passed-way L old seen seen' w rest all h p = record {
  on_the_way = same-seen L last seen' (y ∷ seen) h (subst (λ (N : Language). IsOnTheWay L N (y ∷ seen)) (sym second) (one-way L middle seen w on));
  behind = ap (λ (N : Language). with_ways N rest) second ∙ ap (λ (N : Language). with_ways (with_cross N w) rest) first ∙ p.behind;
}
  where
    y : List ℕ
    y = w.1

    M : Language
    M = with_definitions L old

    mid : List Definition
    mid = old ++ lacked_to L.nonterminals seen y

    middle : Language
    middle = with_definitions L mid

    last : Language
    last = with_definitions L (mid ++ lacked_from L mid y w.0)

    first : middle ≡ with_crosses M y
    first = ap (λ ds. record L { nonterminals = ds })
        (sym (append_assoc L.nonterminals old (lacked_to L.nonterminals seen y)) ∙ ap (λ ds. (L.nonterminals ++ old) ++ ds) (sym (next-new L M seen p.on_the_way y)))

    on : IsOnTheWay L middle (y ∷ seen)
    on = subst (λ (N : Language). IsOnTheWay L N (y ∷ seen)) (sym first) (one-more L M seen y p.on_the_way)

    second : last ≡ with_cross middle w
    second = ap (λ ds. record L { nonterminals = ds })
        (sym (append_assoc L.nonterminals mid (lacked_from L mid y w.0))
        ∙ ap (λ ds. (L.nonterminals ++ mid) ++ ds) (sym (lacks-next L mid (y ∷ seen) y w.0 on (first-among y seen))))

-- the next of all ways
pub passed-next : (L : Language) (ways : List Way) (i : ℕ) (w : Way) (seen seen' : List (List ℕ)) (old mid new : List Definition)
    → i < length ways → w ≡ get_or ways i w → mid ≡ old ++ lacked_to L.nonterminals seen w.1 → new ≡ mid ++ lacked_from L mid w.1 w.0
    → HaveSame seen' (w.1 ∷ seen) → HasPassed L old seen (drop i ways) ways → HasPassed L new seen' (drop (i + 1) ways) ways
passed-next L ways i w seen seen' old mid new h e f g k p =
    let m : List Definition = old ++ lacked_to L.nonterminals seen w.1 in
    let n : new ≡ m ++ lacked_from L m w.1 w.0 = g ∙ ap (λ ds. ds ++ lacked_from L ds w.1 w.0) f in
    subst (λ ds. HasPassed L ds seen' (drop (i + 1) ways) ways) (sym n)
    (passed-way L old seen seen' w (drop (i + 1) ways) ways k (subst (λ ws. HasPassed L old seen ws ways) (drop-at ways i w h e) p))

-- behind the last one all were passed
pub passed-all : (L : Language) (ways : List Way) (i : ℕ) (seen : List (List ℕ)) (ds : List Definition)
    → length ways ≤ i → HasPassed L ds seen (drop i ways) ways → with_definitions L ds ≡ with_ways L ways
passed-all L ways i seen ds h p = ap (with_ways (with_definitions L ds)) (sym (drop_all i ways h)) ∙ p.behind
