-- A length name over a pattern without a height is among those that are noted, where it comes again.
use Rattle.std.proofs.Common.{◌≡◌, ℕ, Bool, true, false, List, [], ◌∷◌, ◌++◌, Option, Some, None, if◌then◌else◌, refl, sym, ap, ◌∙◌}
use Rattle.std.specs.Cmp.Lexicographic.{bytes_decides}
use Rattle.std.specs.Prelude.{◌&&◌, ◌||◌, bytes_eq, IsTrue}
use Rattle.rdx_lang.specs.Members.{In, here, there}
use Rattle.rdx_lang.specs.Patterns.{Pattern, wild, of_kind, except, prefix, hole, lit, nt, named, differ, in_hole, hide_hole, closed, seq, Items, nil, one, many}
use Rattle.rdx_lang.specs.Rules.{is_one_of}
use Rattle.rdx_lang.proofs.MemberLaws.{append-left, append-right}
use Rattle.rdx_gen.specs.Generation.{Notes, no_notes, lacks}
use Rattle.rdx_gen.specs.Heights.{Known, term_height}
use Rattle.rdx_gen.specs.NameRules.{Place, places, item_places, places_of, length_place, hollow_names, notes_of}

-- a length name over a pattern of such a height is among the hollow ones, where it comes again and there is no height
abbrev pub IsNoted : Notes → Option ℕ → Option (List ℕ) → Type 0
IsNoted o h None = Unit {0}
IsNoted o h (Some x) = IsTrue (is_one_of o.again x) → IsTrue (lacks h) → IsTrue (is_one_of o.hollow x)

abbrev mutual
  -- so is each in a pattern
  pub AllNoted : Known → Notes → Pattern → Type 0
  AllNoted K o wild = Unit {0}
  AllNoted K o (of_kind k) = Unit {0}
  AllNoted K o (except rs) = Unit {0}
  AllNoted K o (prefix r) = Unit {0}
  AllNoted K o hole = Unit {0}
  AllNoted K o (lit u) = Unit {0}
  AllNoted K o (nt x) = Unit {0}
  AllNoted K o (named x q) = AllNoted K o q
  AllNoted K o (differ x q) = AllNoted K o q
  AllNoted K o (in_hole q r) = AllNoted K o q × AllNoted K o r
  AllNoted K o (hide_hole q) = AllNoted K o q
  AllNoted K o (closed q) = Unit {0}
  AllNoted K o (seq ps) = ItemsNoted K o ps

  -- and in items
  pub ItemsNoted : Known → Notes → Items → Type 0
  ItemsNoted K o nil = Unit {0}
  ItemsNoted K o (one p ps) = AllNoted K o p × ItemsNoted K o ps
  ItemsNoted K o (many p x ps) = AllNoted K o p × (IsNoted o (term_height K p) x × ItemsNoted K o ps)

module _ (K : Known) (o : Notes) where
  -- the name of a place is noted so
  abbrev PlaceNoted : Place → Type 0
  PlaceNoted u = IsTrue u.is_length → IsNoted o (term_height K u.part) (Some u.name)

  length-noted : (x : Option (List ℕ)) (p : Pattern) (r l : Bool) → ((u : Place) → In u (length_place x p r l) → PlaceNoted u)
      → IsNoted o (term_height K p) x
  length-noted None p r l f = tt
  length-noted (Some x) p r l f = f (record { name = x; part = p; is_length = true; is_mismatch = false; repeated = r; left = l }) (here refl) refl

  mutual
    all-noted : (r l : Bool) (p : Pattern) → ((u : Place) → In u (places r l p) → PlaceNoted u) → AllNoted K o p
    all-noted r l wild f = tt
    all-noted r l (of_kind k) f = tt
    all-noted r l (except rs) f = tt
    all-noted r l (prefix x) f = tt
    all-noted r l hole f = tt
    all-noted r l (lit u) f = tt
    all-noted r l (nt x) f = tt
    all-noted r l (named x q) f = all-noted r l q (λ u i. f u (there i))
    all-noted r l (differ x q) f = all-noted r l q (λ u i. f u (there i))
    all-noted r l (in_hole p q) f = (
      all-noted r true p (λ u i. f u (append-left (places r true p) (places r l q) u i)),
      all-noted r l q (λ u i. f u (append-right (places r true p) (places r l q) u i)),
    )
    all-noted r l (hide_hole q) f = all-noted r l q f
    all-noted r l (closed q) f = tt
    all-noted r l (seq ps) f = items-noted r l ps f

    items-noted : (r l : Bool) (ps : Items) → ((u : Place) → In u (item_places r l ps) → PlaceNoted u) → ItemsNoted K o ps
    items-noted r l nil f = tt
    items-noted r l (one p ps) f = (
      all-noted r l p (λ u i. f u (append-left (places r l p) (item_places r l ps) u i)),
      items-noted r l ps (λ u i. f u (append-right (places r l p) (item_places r l ps) u i)),
    )
    items-noted r l (many p x ps) f =
        let inside : List Place = places true l p in
        let name : List Place = length_place x p r l in
        let rest : List Place = item_places r l ps in (
          all-noted true l p (λ u i. f u (append-left (inside ++ name) rest u (append-left inside name u i))),
          (
            length-noted x p r l (λ u i. f u (append-left (inside ++ name) rest u (append-right inside name u i))),
            items-noted r l ps (λ u i. f u (append-right (inside ++ name) rest u i)),
          ),
        )

-- where no name comes again there is nothing to note
pub none-noted : (K : Known) (p : Pattern) → AllNoted K no_notes p
none-noted K p = all-noted K no_notes false false p (λ u i e g. absurd cc)

in_more : (b : Bool) (x y : List ℕ) (xs : List (List ℕ)) → is_one_of xs x ≡ true → is_one_of (if b then y ∷ xs else xs) x ≡ true
in_more true x y xs e = right (bytes_eq y x) (is_one_of xs x) e
  where
    right : (a c : Bool) → c ≡ true → (a || c) ≡ true
    right true c h = refl
    right false c h = h
in_more false x y xs e = e

first_in : (b : Bool) (x y : List ℕ) (xs : List (List ℕ)) → b ≡ true → x ≡ y → is_one_of (if b then y ∷ xs else xs) x ≡ true
first_in true x y xs e q = ap (λ z. z || is_one_of xs x) ((bytes_decides y x).1 (sym q))
first_in false x y xs e q = absurd cc

and_true : (a b : Bool) → a ≡ true → b ≡ true → (a && b) ≡ true
and_true true b e f = f
and_true false b e f = absurd cc

-- a length name at one of these places over a pattern without a height is among the hollow ones
hollow-in : (K : Known) (us : List Place) (u : Place) → In u us → IsTrue u.is_length → IsTrue (lacks (term_height K u.part))
    → IsTrue (is_one_of (hollow_names K us) u.name)
hollow-in K [] u i e h = elim i [ ]
hollow-in K (v ∷ us) u (here q) e h =
    first_in (v.is_length && lacks (term_height K v.part)) u.name v.name (hollow_names K us)
    (and_true v.is_length (lacks (term_height K v.part)) (ap (λ (z : Place). z.is_length) (sym q) ∙ e)
    (ap (λ (z : Place). lacks (term_height K z.part)) (sym q) ∙ h))
    (ap (λ (z : Place). z.name) q)
hollow-in K (v ∷ us) u (there i) e h =
    in_more (v.is_length && lacks (term_height K v.part)) u.name v.name (hollow_names K us) (hollow-in K us u i e h)

-- what is noted of a pattern
pub notes-noted : (K : Known) (p : Pattern) → AllNoted K (notes_of K p) p
notes-noted K p = all-noted K (notes_of K p) false false p (λ u i e g h. hollow-in K (places_of p) u i e h)
