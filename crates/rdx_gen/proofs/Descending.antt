-- Where as many nonterminals may stand in one another as a nonterminal's height and the size want, something comes of it.
use Rattle.std.proofs.Common.{◌≡◌, ℕ, zero, suc, ◌+◌, ◌-◌, ◌*◌, ◌<◌, ◌≤◌, List, map, length, Option, Some, None, refl, subst, arith}
use Rattle.std.specs.Prelude.{IsTrue, slice_index_or}
use Rattle.rdx_term.specs.Context.{is_context}
use Rattle.rdx_lang.specs.Lookup.{alternatives_of}
use Rattle.rdx_lang.specs.Patterns.{Pattern, wild, Language}
use Rattle.rdx_lang.specs.declared.pattern.Ref.{Ref}
use Rattle.rdx_gen.specs.Generation.{no_notes, choices, inner_at, setting_of}
use Rattle.rdx_gen.specs.declared.height.Height.{Height}
use Rattle.rdx_gen.specs.Heights.{known_in, height_in, term_height, context_height, one_more, least}
use Rattle.rdx_gen.specs.Outcomes.{State, one_of}
use Rattle.rdx_gen.proofs.Choosing.{Low, Comes, comes-choice, pattern-low}
use Rattle.rdx_gen.proofs.Coming.{Gives, comes-after, terms-come, contexts-come}
use Rattle.rdx_gen.proofs.HeightLaws.{Within, height-known, term_within, context_within}
use Rattle.rdx_gen.proofs.HollowNames.{none-noted}

-- n are enough for a nonterminal of this height: at size 0 as many as its height says, and above it as many as the size and the bound b on all
-- heights say together
abbrev pub IsEnough : ℕ → ℕ → ℕ → Option ℕ → Type 0
IsEnough b n size None = ⊥
IsEnough b n size (Some h) = (size ≡ 0 → h ≤ n) × (0 < size → size + b ≤ n)

-- none at all are never enough
none-enough : (b size : ℕ) (l : Option ℕ) → IsEnough b 0 size (one_more l) → ⊥
none-enough b size None e = e
none-enough b zero (Some v) e = let k = e.0 refl in omega (arith, k)
none-enough b (suc n) (Some v) e = let k = e.1 (omega arith) in omega (arith, k)

-- what leads one level down: the alternatives have a least height that is low, those that are low stay so at the next size, and m are enough for them
record Descent (b m size : ℕ) (l : Option ℕ) : Type 0 where
  bound : ℕ
  least_low : Low size bound l
  stays_low : (o : Option ℕ) → Within b o → Low size bound o → Low (size - 1) bound o
  enough : (o : Option ℕ) → Low (size - 1) bound o → IsEnough b m (size - 1) o

low-at_zero : (v : ℕ) (o : Option ℕ) → Low 0 v o → Low (0 - 1) v o
low-at_zero v None l = l
low-at_zero v (Some h) l = λ z. l refl

low-within : (b size v : ℕ) (o : Option ℕ) → Within b o → Low size v o → Low (size - 1) b o
low-within b size v None w l = l
low-within b size v (Some h) w l = λ z. w

enough-at_zero : (b m v : ℕ) (o : Option ℕ) → v ≤ m → Low (0 - 1) v o → IsEnough b m (0 - 1) o
enough-at_zero b m v None k l = l
enough-at_zero b m v (Some h) k l = (λ z. let i = l z in omega (arith, i, k), λ z. absurd (omega (arith, z)))

enough-above : (b m k : ℕ) (o : Option ℕ) → suc k + b ≤ suc m → Low (suc k - 1) b o → IsEnough b m (suc k - 1) o
enough-above b m k None e l = l
enough-above b m k (Some h) e l = (λ z. let i = l z in omega (arith, i, e), λ z. omega (arith, e))

descent : (b m size : ℕ) (l : Option ℕ) → IsEnough b (suc m) size (one_more l) → Descent b m size l
descent b m size None e = absurd e
descent b m zero (Some v) e =
    let k = e.0 refl in
    record {
      bound = v;
      least_low = λ z. omega arith;
      stays_low = λ o w l. low-at_zero v o l;
      enough = λ o l. enough-at_zero b m v o (omega (arith, k)) l;
    }
descent b m (suc n) (Some v) e =
    let k = e.1 (omega arith) in
    record {
      bound = b;
      least_low = λ z. absurd (omega (arith, z));
      stays_low = λ o w l. low-within b (suc n) b o w l;
      enough = λ o l. enough-above b m n o k l;
    }

-- what is enough for a nonterminal, by the least height of its alternatives
term-enough : (L : Language) (n size : ℕ) (x : Ref) → IsEnough (2 * length L.nonterminals) n size (height_in (known_in L) x).as_term
    → IsEnough (2 * length L.nonterminals) n size (one_more (least (map (term_height (known_in L)) (alternatives_of L x))))
term-enough L n size x e = subst (λ (h : Height). IsEnough (2 * length L.nonterminals) n size h.as_term) (height-known L x) e

context-enough : (L : Language) (n size : ℕ) (x : Ref) → IsEnough (2 * length L.nonterminals) n size (height_in (known_in L) x).as_context
    → IsEnough (2 * length L.nonterminals) n size (one_more (least (map (context_height (known_in L)) (alternatives_of L x))))
context-enough L n size x e = subst (λ (h : Height). IsEnough (2 * length L.nonterminals) n size h.as_context) (height-known L x) e

-- what nonterminals give where n may stand in one another
pub record InnerComes (L : Language) (n size : ℕ) : Type 0 where
  pub terms : (x : Ref) → IsEnough (2 * length L.nonterminals) n size (height_in (known_in L) x).as_term → (s : State)
      → Comes (λ t y. y.lengths ≡ s.lengths) ((inner_at L (setting_of L) n).as_term x size s)
  pub contexts : (x : Ref) → IsEnough (2 * length L.nonterminals) n size (height_in (known_in L) x).as_context → (s : State)
      → Comes (λ C y. IsTrue (is_context C) × (y.lengths ≡ s.lengths)) ((inner_at L (setting_of L) n).as_context x size s)

-- in an alternative no name comes again, and lengths stay
inner-gives : (L : Language) (m size bound : ℕ) (ls : List (List ℕ × ℕ)) → InnerComes L m size
    → ((o : Option ℕ) → Low size bound o → IsEnough (2 * length L.nonterminals) m size o)
    → Gives (setting_of L) (inner_at L (setting_of L) m) no_notes size bound (λ ks. ks ≡ ls)
inner-gives L m size bound ls c enough = record {
  terms = λ x l s. c.terms x (enough _ l) s;
  contexts = λ x l s. c.contexts x (enough _ l) s;
  had = λ x ks k e h i. absurd cc;
  new = λ x ks k e h i. absurd cc;
}

pub inner-comes : (L : Language) (n size : ℕ) → InnerComes L n size
unfolding inner_at
inner-comes L zero size = record {
  terms = λ x e s. absurd (none-enough (2 * length L.nonterminals) size _ (term-enough L 0 size x e));
  contexts = λ x e s. absurd (none-enough (2 * length L.nonterminals) size _ (context-enough L 0 size x e));
}
inner-comes L (suc m) size = record {
  terms = λ x e s.
      let ps : List Pattern = alternatives_of L x in
      let hs : List (Option ℕ) = map (term_height (known_in L)) ps in
      let d = descent (2 * length L.nonterminals) m size (least hs) (term-enough L (suc m) size x e) in
      comes-after (λ k y. Low size d.bound (slice_index_or hs k None) × (y.lengths ≡ s.lengths)) (λ t y. y.lengths ≡ s.lengths)
      (one_of (choices size hs) s) _ (comes-choice size d.bound hs s d.least_low)
      (λ k y c.
      let q : Pattern = slice_index_or ps k wild in
      terms-come (setting_of L) (inner_at L (setting_of L) m) no_notes (size - 1) d.bound (λ ks. ks ≡ s.lengths)
      (inner-gives L m (size - 1) d.bound s.lengths (inner-comes L m (size - 1)) d.enough) q y
      (d.stays_low (term_height (known_in L) q) (term_within L q) (pattern-low size d.bound (term_height (known_in L)) ps k c.0))
      (none-noted (known_in L) q) c.1);
  contexts = λ x e s.
      let ps : List Pattern = alternatives_of L x in
      let hs : List (Option ℕ) = map (context_height (known_in L)) ps in
      let d = descent (2 * length L.nonterminals) m size (least hs) (context-enough L (suc m) size x e) in
      comes-after (λ k y. Low size d.bound (slice_index_or hs k None) × (y.lengths ≡ s.lengths)) (λ C y. IsTrue (is_context C) × (y.lengths ≡ s.lengths))
      (one_of (choices size hs) s) _ (comes-choice size d.bound hs s d.least_low)
      (λ k y c.
      let q : Pattern = slice_index_or ps k wild in
      contexts-come (setting_of L) (inner_at L (setting_of L) m) no_notes (size - 1) d.bound (λ ks. ks ≡ s.lengths)
      (inner-gives L m (size - 1) d.bound s.lengths (inner-comes L m (size - 1)) d.enough) q y
      (d.stays_low (context_height (known_in L) q) (context_within L q) (pattern-low size d.bound (context_height (known_in L)) ps k c.0))
      (none-noted (known_in L) q) c.1);
}
