-- One entry more, or the same: what inserting keeps, and where the term is then.
use Rattle.std.proofs.Common.{◌≡◌, ℕ, zero, suc, ◌+◌, ◌<◌, Bool, true, false, if◌then◌else◌, cond, List, [], ◌∷◌, ◌++◌, length, map}
use Rattle.std.proofs.Common.{◌⊎◌, inl, inr, refl, sym, ◌∙◌, ap, subst, arith}
use Rattle.std.specs.Prelude.{not}
use Rattle.std.specs.Ordering.{on}
use Rattle.std.specs.List.{position_or_len}
use Rattle.std.proofs.lemmas.List.{length-map, map-append}
use Rattle.std.proofs.Math.Seq.{get_or-append_seam}
use mathlib.Core.Bool.{true≢false}
use Rattle.indexmap.specs.IndexMap.{insert_entry}
use Rattle.rdx_term.specs.Tree.{Tree, hole}
use Rattle.rdx_term.specs.View.{tree_of}
use Rattle.rdx_term.specs.declared.term.Term.{Term}
use Rattle.rdx_store.proofs.Extending.{extends-same}
use Rattle.rdx_store.proofs.Ids.{distinct-push}
use Rattle.rdx_store.proofs.ShapesOfTrees.{shape-extends, described-extends, described-push, one_shape}
use Rattle.rdx_store.specs.Model.Entries.{tree_by, IsShapeOf, entry_trees, AreDescribed, AreEntries}
use Rattle.rdx_store.specs.Model.KeyView.{shape_of}
use Rattle.rdx_store.specs.Model.ShapeLaws.{shape_eq-decides}
use Rattle.rdx_store.specs.Model.Shapes.{shape_eq}
use Rattle.rdx_store.specs.Stored.{tree_by_id, AreDistinct, Extends}
use Rattle.rdx_store.specs.declared.key.Key.{Key}

abbrev Entry : Type 0
Entry = Key × Term

-- the entries once the pair is inserted
abbrev pub inserted : List Entry → Key → Term → List Entry
inserted es k v = insert_entry (on shape_of shape_eq) es k v

-- the place of the key
abbrev pub place : List Entry → Key → ℕ
place es k = position_or_len (on shape_of shape_eq k) (map (λ e. e.0) es)

-- ---- by the first entry

-- whether an entry has the key
abbrev has_key : Key → Entry → Bool
has_key k e = shape_eq (shape_of k) (shape_of e.0)

module _ (k : Key) (v : Term) (e : Entry) (es : List Entry) where
  -- it has, so it gets the term
  inserted-first : has_key k e ≡ true → inserted (e ∷ es) k v ≡ (e.0, v) ∷ es
  inserted-first p = ap (λ c. if c then (e.0, v) ∷ es else e ∷ inserted es k v) p

  place-first : has_key k e ≡ true → place (e ∷ es) k ≡ 0
  place-first p = ap (λ c. cond (not c) (1 + place es k) 0) p

  -- it has not, so the others follow
  inserted-later : has_key k e ≡ false → inserted (e ∷ es) k v ≡ e ∷ inserted es k v
  inserted-later p = ap (λ c. if c then (e.0, v) ∷ es else e ∷ inserted es k v) p

  place-later : has_key k e ≡ false → place (e ∷ es) k ≡ suc (place es k)
  place-later p = ap (λ c. cond (not c) (1 + place es k) 0) p ∙ one_more (place es k)
    where
      one_more : (n : ℕ) → 1 + n ≡ suc n
      one_more n = omega arith

-- ---- found, or new

-- the key is there, and has the term
record IsFound (ts : List Tree) (es : List Entry) (k : Key) (v : Term) : Type 0 where
  pub trees : entry_trees (inserted es k v) ≡ entry_trees es
  pub described : AreDescribed ts (inserted es k v)
  pub tree : tree_by_id (entry_trees es) (place es k) ≡ tree_of v

-- the key is new, and so is the term
record IsNew (es : List Entry) (k : Key) (v : Term) : Type 0 where
  pub entries : inserted es k v ≡ es ++ (k, v) ∷ []
  pub place : place es k ≡ length es
  pub apart : (i : ℕ) → i < length es → tree_by_id (entry_trees es) i ≡ tree_of v → ⊥

-- by one entry after another, where these are the terms, and the key gives the term
module _ (ts : List Tree) (k : Key) (v : Term) (h : IsShapeOf ts (shape_of k) (tree_of v)) (d : AreDistinct ts) where
  found_first : (e : Entry) (es : List Entry) → AreDescribed ts (e ∷ es) → has_key k e ≡ true → IsFound ts (e ∷ es) k v
  found_first e es a p = record {
    trees = ap entry_trees (inserted-first k v e es p) ∙ ap (λ t. t ∷ entry_trees es) (sym same);
    described = subst (AreDescribed ts) (sym (inserted-first k v e es p)) (subst (IsShapeOf ts (shape_of e.0)) same a.0, a.1);
    tree = ap (tree_by_id (entry_trees (e ∷ es))) (place-first k v e es p) ∙ same;
  }
    where
      same : tree_of e.1 ≡ tree_of v
      same = sym a.0.tree ∙ ap (tree_by ts) (sym ((shape_eq-decides (shape_of k) (shape_of e.0)).0 p)) ∙ h.tree

  found_later : (e : Entry) (es : List Entry)
      → AreDescribed ts (e ∷ es) → has_key k e ≡ false → IsFound ts es k v → IsFound ts (e ∷ es) k v
  found_later e es a p f = record {
    trees = ap entry_trees (inserted-later k v e es p) ∙ ap (λ us. tree_of e.1 ∷ us) f.trees;
    described = subst (AreDescribed ts) (sym (inserted-later k v e es p)) (a.0, f.described);
    tree = ap (tree_by_id (entry_trees (e ∷ es))) (place-later k v e es p) ∙ f.tree;
  }

  -- an entry with another key has another term
  other_term : (e : Entry) → IsShapeOf ts (shape_of e.0) (tree_of e.1) → has_key k e ≡ false → tree_of e.1 ≡ tree_of v → ⊥
  other_term e a p q =
      let s : shape_of k ≡ shape_of e.0 = one_shape ts (tree_of v) (shape_of k) (shape_of e.0) d h (subst (IsShapeOf ts (shape_of e.0)) q a) in
      true≢false (sym ((shape_eq-decides (shape_of k) (shape_of e.0)).1 s) ∙ p)

  new_later : (e : Entry) (es : List Entry) → AreDescribed ts (e ∷ es) → has_key k e ≡ false → IsNew es k v → IsNew (e ∷ es) k v
  new_later e es a p n = record {
    entries = inserted-later k v e es p ∙ ap (λ fs. e ∷ fs) n.entries;
    place = place-later k v e es p ∙ ap suc n.place;
    apart = by_place;
  }
    where
      by_place : (i : ℕ) → i < length (e ∷ es) → tree_by_id (entry_trees (e ∷ es)) i ≡ tree_of v → ⊥
      by_place zero l q = other_term e a.0 p q
      by_place (suc i) l q = n.apart i (omega arith) q

  found_or_new : (es : List Entry) → AreDescribed ts es → IsFound ts es k v ⊎ IsNew es k v
  found_or_new [] a = inr (record { entries = refl; place = refl; apart = λ i l q. absurd (omega arith) })
  found_or_new (e ∷ es) a = by_first (has_key k e) refl (found_or_new es a.1)
    where
      by_first : (c : Bool) → has_key k e ≡ c → IsFound ts es k v ⊎ IsNew es k v → IsFound ts (e ∷ es) k v ⊎ IsNew (e ∷ es) k v
      by_first true p r = inl (found_first e es a p)
      by_first false p (inl f) = inl (found_later e es a p f)
      by_first false p (inr n) = inr (new_later e es a p n)

-- ---- the entries of a store

-- what inserting keeps, and where the term is then
pub record Inserts (es : List Entry) (k : Key) (v : Term) : Type 0 where
  pub entries : AreEntries (inserted es k v)
  pub kept : Extends (entry_trees es) (entry_trees (inserted es k v))
  pub tree : tree_by_id (entry_trees (inserted es k v)) (place es k) ≡ tree_of v

-- a key that gives the term is inserted so
pub inserts : (es : List Entry) (k : Key) (v : Term) → AreEntries es → IsShapeOf (entry_trees es) (shape_of k) (tree_of v) → Inserts es k v
inserts es k v a h = by_key (found_or_new (entry_trees es) k v h a.distinct es a.described)
  where
    found : IsFound (entry_trees es) es k v → Inserts es k v
    found f = record {
      entries = record {
        described = subst (λ ts. AreDescribed ts (inserted es k v)) (sym f.trees) f.described;
        distinct = subst AreDistinct (sym f.trees) a.distinct;
      };
      kept = subst (Extends (entry_trees es)) (sym f.trees) extends-same;
      tree = ap (λ ts. tree_by_id ts (place es k)) f.trees ∙ f.tree;
    }

    -- the terms with the new one
    more : List Tree
    more = entry_trees es ++ tree_of v ∷ []

    extended : Extends (entry_trees es) more
    extended = record { more = tree_of v ∷ []; kept = refl }

    described : AreDescribed more (es ++ (k, v) ∷ [])
    described =
        described-push more es (k, v) (described-extends es extended a.described) (shape-extends (shape_of k) (tree_of v) extended h)

    as_long : length (entry_trees es) ≡ length es
    as_long = length-map es (λ (e : Entry). tree_of e.1)

    new : IsNew es k v → Inserts es k v
    new n =
        let p : entry_trees (inserted es k v) ≡ more = ap entry_trees n.entries ∙ map-append (λ (e : Entry). tree_of e.1) es ((k, v) ∷ []) in
        let i : place es k ≡ length (entry_trees es) = n.place ∙ sym as_long in
        record {
          entries = record {
            described = subst (λ ts. AreDescribed ts (inserted es k v)) (sym p) (subst (AreDescribed more) (sym n.entries) described);
            distinct = subst AreDistinct (sym p)
                (distinct-push (entry_trees es) (tree_of v) a.distinct (λ j l e. n.apart j (omega (arith, as_long)) e));
          };
          kept = subst (Extends (entry_trees es)) (sym p) extended;
          tree = ap (λ ts. tree_by_id ts (place es k)) p ∙ ap (tree_by_id more) i ∙ get_or-append_seam (entry_trees es) (tree_of v) [] hole;
        }

    by_key : IsFound (entry_trees es) es k v ⊎ IsNew es k v → Inserts es k v
    by_key (inl f) = found f
    by_key (inr n) = new n
