-- Steps down from patterns with a name or a mismatch name: what the opened pattern inside binds, which is what the whole says of its names, stands
-- for what the pattern inside binds.
use Rattle.std.proofs.Common.{◌≡◌, ℕ, List, [], ◌∷◌, refl, subst}
use Rattle.rdx_term.specs.Tree.{Tree}
use Rattle.rdx_lang.specs.Bindings.{Binding, one_name, one_differs}
use Rattle.rdx_lang.specs.Bindings.{one as one_term}
use Rattle.rdx_lang.specs.Join.{IsJoin}
use Rattle.rdx_lang.specs.Members.{here}
use Rattle.rdx_lang.specs.Names.{names}
use Rattle.rdx_lang.specs.Patterns.{Pattern, named, differ, Language}
use Rattle.rdx_lang.specs.Rules.{Match, match_named, Split, split_named}
use Rattle.rdx_lang.proofs.NameLaws.{match-names, split-names}
use Rattle.rdx_bind.specs.Namings.{Naming, binds, differs, under, alone}
use Rattle.rdx_opened.specs.Opening.{Mark, mark_names, Opens, opens_named, opens_differ, AreDistinct, IsOpened, Stands}
use Rattle.rdx_opened.specs.Picking.{picked}
use Rattle.rdx_opened.proofs.OpenedMatches.{match_forth, split_forth, mark_no_common}
use Rattle.rdx_opened.proofs.OpenedNames.{Fits, fits-behind, fits-inside, binds_marks-names, name-no_mark, opened-fits}
use Rattle.rdx_opened.proofs.Picking.{picked-left}
use Rattle.rdx_opened.proofs.Standing.{name-no_common, stands-one, stands-part, stands-name, stands-mark, stands-joined}

module _ (L : Language) (ms : List Mark) (different : AreDistinct (mark_names ms)) where
  by_name : {x y : List ℕ} {q u : Pattern} {ns : List Mark} {t : Tree} {c b a : Binding} → Opens (named x q) (named y u) ns
      → Fits ms (names (named x q)) ns → Match L (named y u) t c → Stands ms c b → Stands ms (picked c (names u)) a
      → Match L q t a × IsJoin a (one_name x (one_term t)) b
  by_name {x = x} {q = q} {u = u} {t = t} {c = c} {b = b} {a = a} (opens_named r) f (match_named {c = d} h j) s p =
      let n = name-no_mark x (names q) f in
      let k = match_forth L ms different r (fits-inside (names q) (x ∷ []) f) t d h (stands-part j.pairs.left s.apart) in
      let e : picked c (names u) ≡ d = picked-left d (one_name x (one_term t)) c (names u) j (match-names h) k.stands.plain in
      let same : k.whole ≡ a = stands-one k.stands (subst (λ (v : Binding). Stands ms v a) e p) in
      let joined : IsJoin k.whole (one_name x (one_term t)) b = stands-joined k.stands (stands-name (one_term t) n) (name-no_common ms d x (one_term t) n) j s in
      (subst (λ (v : Binding). Match L q t v) same k.holds, subst (λ (v : Binding). IsJoin v (one_name x (one_term t)) b) same joined)

  by_differ : {x y : List ℕ} {q u : Pattern} {ns : List Mark} {t : Tree} {c b a : Binding} → Opens (differ x q) (named y u) ns
      → Fits ms (names (differ x q)) ns → Match L (named y u) t c → Stands ms c b → Stands ms (picked c (names u)) a
      → Match L q t a × IsJoin a (one_differs x t) b
  by_differ {x = x} {y = y} {q = q} {u = u} {t = t} {c = c} {b = b} {a = a} (opens_differ {ms = ns} r) f (match_named {c = d} h j) s p =
      let g = fits-behind f in
      let i = f.within (y, x) (here refl) in
      let k = match_forth L ms different r g t d h (stands-part j.pairs.left s.apart) in
      let n = mark_no_common ms ns d y x (one_term t) i f.distinct.0 (binds_marks-names r g d (match-names h)) in
      let e : picked c (names u) ≡ d = picked-left d (one_name y (one_term t)) c (names u) j (match-names h) k.stands.plain in
      let same : k.whole ≡ a = stands-one k.stands (subst (λ (v : Binding). Stands ms v a) e p) in
      let joined : IsJoin k.whole (one_differs x t) b = stands-joined k.stands (stands-mark different i t) n j s in
      (subst (λ (v : Binding). Match L q t v) same k.holds, subst (λ (v : Binding). IsJoin v (one_differs x t) b) same joined)

  split_by_name : {x y : List ℕ} {q u : Pattern} {ns : List Mark} {t C z : Tree} {c b a : Binding} → Opens (named x q) (named y u) ns
      → Fits ms (names (named x q)) ns → Split L (named y u) t C z c → Stands ms c b → Stands ms (picked c (names u)) a
      → Split L q t C z a × IsJoin a (one_name x (one_term C)) b
  split_by_name {x = x} {q = q} {u = u} {t = t} {C = C} {z = z} {c = c} {b = b} {a = a} (opens_named r) f (split_named {c = d} h j) s p =
      let n = name-no_mark x (names q) f in
      let k = split_forth L ms different r (fits-inside (names q) (x ∷ []) f) t C z d h (stands-part j.pairs.left s.apart) in
      let e : picked c (names u) ≡ d = picked-left d (one_name x (one_term C)) c (names u) j (split-names h) k.stands.plain in
      let same : k.whole ≡ a = stands-one k.stands (subst (λ (v : Binding). Stands ms v a) e p) in
      let joined : IsJoin k.whole (one_name x (one_term C)) b = stands-joined k.stands (stands-name (one_term C) n) (name-no_common ms d x (one_term C) n) j s in
      (subst (λ (v : Binding). Split L q t C z v) same k.holds, subst (λ (v : Binding). IsJoin v (one_name x (one_term C)) b) same joined)

  split_by_differ : {x y : List ℕ} {q u : Pattern} {ns : List Mark} {t C z : Tree} {c b a : Binding} → Opens (differ x q) (named y u) ns
      → Fits ms (names (differ x q)) ns → Split L (named y u) t C z c → Stands ms c b → Stands ms (picked c (names u)) a
      → Split L q t C z a × IsJoin a (one_differs x C) b
  split_by_differ {x = x} {y = y} {q = q} {u = u} {t = t} {C = C} {z = z} {c = c} {b = b} {a = a} (opens_differ {ms = ns} r) f (split_named {c = d} h j) s p =
      let g = fits-behind f in
      let i = f.within (y, x) (here refl) in
      let k = split_forth L ms different r g t C z d h (stands-part j.pairs.left s.apart) in
      let n = mark_no_common ms ns d y x (one_term C) i f.distinct.0 (binds_marks-names r g d (split-names h)) in
      let e : picked c (names u) ≡ d = picked-left d (one_name y (one_term C)) c (names u) j (split-names h) k.stands.plain in
      let same : k.whole ≡ a = stands-one k.stands (subst (λ (v : Binding). Stands ms v a) e p) in
      let joined : IsJoin k.whole (one_differs x C) b = stands-joined k.stands (stands-mark different i C) n j s in
      (subst (λ (v : Binding). Split L q t C z v) same k.holds, subst (λ (v : Binding). IsJoin v (one_differs x C) b) same joined)

module _ (L : Language) (q : Pattern) {ms : List Mark} (y : List ℕ) (u : Pattern) where
  -- the pattern inside matches and binds a, and this is joined with what the name alone binds
  pub naming_match : (n : Naming) (t : Tree) (c b a : Binding) → IsOpened (under n q) (named y u) ms → Match L (named y u) t c → Stands ms c b
      → Stands ms (picked c (names u)) a
      → Match L q t a × IsJoin a (alone n t) b
  naming_match (binds x) t c b a h m s p = by_name L ms h.new.distinct h.opens (opened-fits h (λ m i. i) h.new) m s p
  naming_match (differs x) t c b a h m s p = by_differ L ms h.new.distinct h.opens (opened-fits h (λ m i. i) h.new) m s p

  -- so where it splits a term
  pub naming_split : (n : Naming) (t C z : Tree) (c b a : Binding) → IsOpened (under n q) (named y u) ms → Split L (named y u) t C z c
      → Stands ms c b
      → Stands ms (picked c (names u)) a
      → Split L q t C z a × IsJoin a (alone n C) b
  naming_split (binds x) t C z c b a h m s p = split_by_name L ms h.new.distinct h.opens (opened-fits h (λ m i. i) h.new) m s p
  naming_split (differs x) t C z c b a h m s p = split_by_differ L ms h.new.distinct h.opens (opened-fits h (λ m i. i) h.new) m s p
