-- Steps down from patterns for contexts and parts: what the two opened patterns inside bind is what the whole says of their names, so a search for
-- that finds some context and part; and wherever it is found, the patterns themselves split the term so and match the part. What is said of the
-- names of an opened pattern inside is apart where the whole is.
use Rattle.std.proofs.Common.{◌≡◌, ℕ, List, [], ◌++◌, refl, sym, subst, ◌∙◌}
use Rattle.rdx_term.specs.Tree.{Tree}
use Rattle.rdx_term.specs.Fill.{fill_of}
use Rattle.rdx_lang.specs.Bindings.{Binding, visible, HasAscendingNames}
use Rattle.rdx_lang.specs.Join.{IsJoin}
use Rattle.rdx_lang.specs.Listing.{IsSeen}
use Rattle.rdx_lang.specs.Names.{names}
use Rattle.rdx_lang.specs.Patterns.{Pattern, named, in_hole, Language}
use Rattle.rdx_lang.specs.Rules.{Match, match_in_hole, Split, split_in_hole}
use Rattle.rdx_lang.proofs.NameLaws.{match-names, split-names}
use Rattle.rdx_bind.specs.Namings.{Naming, binds, differs, under}
use Rattle.rdx_opened.specs.Opening.{Mark, mark_names, Opens, opens_named, opens_differ, opens_in_hole, AreDistinct, IsOpened, IsApart, Stands}
use Rattle.rdx_opened.specs.Picking.{picked}
use Rattle.rdx_opened.proofs.OpenedMatches.{match_forth, split_forth}
use Rattle.rdx_opened.proofs.OpenedNames.{Fits, fits-left, fits-right, binds_marks-names, parts-no_common, opened-fits}
use Rattle.rdx_opened.proofs.OpenedPlain.{opened_match-plain, opened_split-plain}
use Rattle.rdx_opened.proofs.Picking.{picked-left, picked-right}
use Rattle.rdx_opened.proofs.Standing.{stands-one, stands-part, stands-joined}
use Rattle.rdx_why.proofs.TakenLengths.{picked-within}

-- ---- what is picked

-- so they are apart where the whole is
pub picked-apart : {ms : List Mark} (c : Binding) (xs : List (List ℕ)) → HasAscendingNames c → IsApart ms c → IsApart ms (picked c xs)
picked-apart c xs a f = stands-part (picked-within c a xs) f

-- ---- forms of opened patterns

-- a pattern under a name or a mismatch name opens to one under a name
pub opened_under : (n : Naming) (q : Pattern) {o : Pattern} {ms : List Mark} → Opens (under n q) o ms → (x : List ℕ) × (u : Pattern) × (o ≡ named x u)
opened_under (binds x) q (opens_named {o = o} h) = (x, o, refl)
opened_under (differs x) q (opens_differ {y = y} {o = o} h) = (y, o, refl)

-- one for contexts and parts to such a one
pub opened_in_hole : {q r o : Pattern} {ms : List Mark} → Opens (in_hole q r) o ms → (u : Pattern) × (v : Pattern) × (o ≡ in_hole u v)
opened_in_hole (opens_in_hole {o = o} {u = u} h k) = (o, u, refl)

-- both patterns inside are opened, by marks that differ
record AreBothOpened (ms : List Mark) (q r o u : Pattern) : Type 0 where
  left_marks : List Mark
  right_marks : List Mark
  left : Opens q o left_marks
  right : Opens r u right_marks
  left_fits : Fits ms (names q) left_marks
  right_fits : Fits ms (names r) right_marks
  distinct : AreDistinct (mark_names (left_marks ++ right_marks))

both_opened : {ms ns : List Mark} {q r o u : Pattern} → Opens (in_hole q r) (in_hole o u) ns → Fits ms (names (in_hole q r)) ns
    → AreBothOpened ms q r o u
both_opened {q = q} {r = r} (opens_in_hole {ms = ns} {ns = ks} h k) f = record {
  left_marks = ns;
  right_marks = ks;
  left = h;
  right = k;
  left_fits = fits-left (names q) (names r) ns ks f;
  right_fits = fits-right (names q) (names r) ns ks f;
  distinct = f.distinct;
}

-- ---- what is seen of an opened pattern

-- what is seen of a binding without sets is that binding
plain_seen : {R : Binding → Type 0} {c : Binding} → ((b : Binding) → R b → b.differs ≡ []) → IsSeen R c → R c
plain_seen {R = R} f s =
    let k = sym (f s.whole s.holds) in
    let e : visible s.whole ≡ s.whole = λ i. record { pairs = s.whole.pairs; differs = k i } in
    subst R (sym (s.seen ∙ e)) s.holds

-- what is picked is seen
picked_seen : {R : Binding → Type 0} (c : Binding) (xs : List (List ℕ)) → R (picked c xs) → IsSeen R (picked c xs)
picked_seen c xs h = record { whole = picked c xs; holds = h; seen = refl }

module _ (L : Language) {q r o u : Pattern} {ms : List Mark} (h : IsOpened (in_hole q r) (in_hole o u) ms) (c : Binding) where
  -- what the two sides bind
  abbrev outer : Binding
  outer = picked c (names o)

  abbrev inner : Binding
  inner = picked c (names u)

  parts : AreBothOpened ms q r o u
  parts = both_opened h.opens (opened-fits h (λ m i. i) h.new)

  -- ---- matches

  -- they have the whole as their join
  in_hole_joined_match : {t : Tree} → Match L (in_hole o u) t c → IsJoin outer inner c
  in_hole_joined_match (match_in_hole {c = d} {d = e} m n j) =
      let f : outer ≡ d = picked-left d e c (names o) j (split-names m) (opened_split-plain parts.left m) in
      let g : inner ≡ e = picked-right d e c (names u) j (match-names n) (opened_match-plain parts.right n) in
      subst (λ (v : Binding). IsJoin outer v c) (sym g) (subst (λ (v : Binding). IsJoin v e c) (sym f) j)

  -- a search finds some context and part
  pub in_hole_found_match : (t : Tree) → Match L (in_hole o u) t c
      → (C : Tree) × (s : Tree) × IsSeen (Split L o t C s) (picked c (names o)) × IsSeen (Match L u s) (picked c (names u))
  in_hole_found_match t (match_in_hole {C = C} {u = s} {c = d} {d = e} m n j) =
      let f : outer ≡ d = picked-left d e c (names o) j (split-names m) (opened_split-plain parts.left m) in
      let g : inner ≡ e = picked-right d e c (names u) j (match-names n) (opened_match-plain parts.right n) in (
        C,
        s,
        picked_seen c (names o) (subst (λ (v : Binding). Split L o t C s v) (sym f) m),
        picked_seen c (names u) (subst (λ (v : Binding). Match L u s v) (sym g) n),
      )

  -- the patterns themselves do what is found
  pub in_hole_match : (t C s : Tree) (b a d : Binding) → Match L (in_hole o u) t c → Stands ms c b → IsSeen (Split L o t C s) (picked c (names o))
      → IsSeen (Match L u s) (picked c (names u)) → Stands ms (picked c (names o)) a → Stands ms (picked c (names u)) d
      → Split L q t C s a × Match L r s d × IsJoin a d b
  in_hole_match t C s b a d m k f g x y =
      let ps = parts in
      let j = in_hole_joined_match m in
      let v : Split L o t C s outer = plain_seen (λ e n. opened_split-plain ps.left n) f in
      let w : Match L u s inner = plain_seen (λ e n. opened_match-plain ps.right n) g in
      let l = split_forth L ms h.new.distinct ps.left ps.left_fits t C s outer v x.apart in
      let n = match_forth L ms h.new.distinct ps.right ps.right_fits s inner w y.apart in
      let apart =
      parts-no_common ms ps.left_marks ps.right_marks outer inner ps.distinct (binds_marks-names ps.left ps.left_fits outer (split-names v))
      (binds_marks-names ps.right ps.right_fits inner (match-names w)) in (
        subst (λ (e : Binding). Split L q t C s e) (stands-one l.stands x) l.holds,
        subst (λ (e : Binding). Match L r s e) (stands-one n.stands y) n.holds,
        stands-joined x y apart j k,
      )

  -- ---- splits

  in_hole_joined_split : {t C s : Tree} → Split L (in_hole o u) t C s c → IsJoin outer inner c
  in_hole_joined_split (split_in_hole {c = d} {d = e} m n l j) =
      let f : outer ≡ d = picked-left d e c (names o) j (split-names m) (opened_split-plain parts.left m) in
      let g : inner ≡ e = picked-right d e c (names u) j (split-names n) (opened_split-plain parts.right n) in
      subst (λ (v : Binding). IsJoin outer v c) (sym g) (subst (λ (v : Binding). IsJoin v e c) (sym f) j)

  pub in_hole_found_split : (t C s : Tree) → Split L (in_hole o u) t C s c
      → (D : Tree) × (z : Tree) × IsSeen (Split L o t D z) (picked c (names o))
      × (E : Tree) × (C ≡ fill_of D E) × IsSeen (Split L u z E s) (picked c (names u))
  in_hole_found_split t C s (split_in_hole {D = D} {E = E} {u = z} {c = d} {d = e} m n l j) =
      let f : outer ≡ d = picked-left d e c (names o) j (split-names m) (opened_split-plain parts.left m) in
      let g : inner ≡ e = picked-right d e c (names u) j (split-names n) (opened_split-plain parts.right n) in (
        D,
        z,
        picked_seen c (names o) (subst (λ (v : Binding). Split L o t D z v) (sym f) m),
        E,
        l,
        picked_seen c (names u) (subst (λ (v : Binding). Split L u z E s v) (sym g) n),
      )

  pub in_hole_split : (t C s D E z : Tree) (b a d : Binding) → Split L (in_hole o u) t C s c → Stands ms c b
      → IsSeen (Split L o t D z) (picked c (names o)) → IsSeen (Split L u z E s) (picked c (names u)) → Stands ms (picked c (names o)) a
      → Stands ms (picked c (names u)) d
      → Split L q t D z a × Split L r z E s d × IsJoin a d b
  in_hole_split t C s D E z b a d m k f g x y =
      let ps = parts in
      let j = in_hole_joined_split m in
      let v : Split L o t D z outer = plain_seen (λ e n. opened_split-plain ps.left n) f in
      let w : Split L u z E s inner = plain_seen (λ e n. opened_split-plain ps.right n) g in
      let l = split_forth L ms h.new.distinct ps.left ps.left_fits t D z outer v x.apart in
      let n = split_forth L ms h.new.distinct ps.right ps.right_fits z E s inner w y.apart in
      let apart =
      parts-no_common ms ps.left_marks ps.right_marks outer inner ps.distinct (binds_marks-names ps.left ps.left_fits outer (split-names v))
      (binds_marks-names ps.right ps.right_fits inner (split-names w)) in (
        subst (λ (e : Binding). Split L q t D z e) (stands-one l.stands x) l.holds,
        subst (λ (e : Binding). Split L r z E s e) (stands-one n.stands y) n.holds,
        stands-joined x y apart j k,
      )
