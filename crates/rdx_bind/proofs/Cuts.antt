-- Items in parts, of which some are single items, one for each term: how many terms they fit, and that the parts of the terms are fixed.
use Rattle.std.proofs.Common.{◌≡◌, ℕ, ◌+◌, ◌≤◌, ◌<◌, ◌⊎◌, inl, inr, Option, List, [], ◌∷◌, ◌++◌, length, map, take, drop, true, refl, sym, ◌∙◌, ap, subst, arith}
use Rattle.std.proofs.lemmas.List.{length-append, map-append, take-append-drop}
use Rattle.rdx_term.proofs.PutItems.{trees_count-trees}
use Rattle.rdx_term.specs.Tree.{Tree, list, trees}
use Rattle.rdx_lang.proofs.RuleSteps.{list_inside, same_length, same_length_split}
use Rattle.rdx_lang.specs.Bindings.{Binding}
use Rattle.rdx_lang.specs.Singles.{are_single}
use Rattle.rdx_lang.specs.Join.{IsJoin}
use Rattle.rdx_lang.specs.Patterns.{Language}
use Rattle.rdx_lang.specs.PatternView.{Slot, items_of}
use Rattle.rdx_lang.specs.Rules.{MatchItems}
use Rattle.rdx_bind.proofs.PartedItems.{MatchParts, match_parts}
use Rattle.rdx_bind.proofs.PartedSplits.{SplitParts, first_split, other_split, split_parts}
use Rattle.rdx_bind.proofs.SplitItems.{item_there, items_split}
use Rattle.rdx_bind.specs.Parts.{AreSingles, CannotFit}
use Rattle.rdx_bind.specs.Rows.{JoinedSpot}
use Rattle.rdx_bind.specs.Spots.{Spot, ItemsSplitAt}

-- ---- how many terms there are

-- single items match as many terms
match_count : {L : Language} {b : Binding} (slots : List Slot) (ts : List Tree) → are_single slots ≡ true → MatchItems L (items_of slots) (trees ts) b → length ts ≡ length slots
match_count slots ts a m = sym (trees_count-trees ts) ∙ same_length slots (trees ts) a m

-- and split as many
split_count : {L : Language} {n : ℕ} {r : Spot} (slots : List Slot) (ts : List Tree) → are_single slots ≡ true → ItemsSplitAt L n (items_of slots) (trees ts) r
    → length ts ≡ length slots
split_count slots ts a h = let i = item_there h in sym (trees_count-trees ts) ∙ same_length_split slots (trees ts) a i.split

-- there is a term for each of the items xs and zs, and no other where there are no items ys
record Fits (xs ys zs : List Slot) (ts : List Tree) : Type 0 where
  pub least : length xs + length zs ≤ length ts
  pub exact : ys ≡ [] → length ts ≤ length xs + length zs

-- terms in three parts
three_fit : (xs ys zs : List Slot) (ts us rest vs ws : List Tree) → ts ≡ us ++ rest → rest ≡ vs ++ ws → length us ≡ length xs → (ys ≡ [] → length vs ≡ 0) → length ws ≡ length zs
    → Fits xs ys zs ts
three_fit xs ys zs ts us rest vs ws e f a b c =
    let g : length ts ≡ length us + length rest = ap length e ∙ length-append us rest in
    let h : length rest ≡ length vs + length ws = ap length f ∙ length-append vs ws in
    record { least = omega arith; exact = λ z. let k = b z in omega arith }

module _ {L : Language} (xs ys zs : List Slot) (a : are_single xs ≡ true) (c : are_single zs ≡ true) where
  -- no items have no terms
  none_matched : {b : Binding} (vs : List Tree) → MatchItems L (items_of ys) (trees vs) b → ys ≡ [] → length vs ≡ 0
  none_matched vs m e = match_count ys vs (ap are_single e) m ∙ ap length e

  -- what matches fits
  matched_fit : {b : Binding} (ts : List Tree) → MatchItems L (items_of (xs ++ (ys ++ zs))) (trees ts) b → Fits xs ys zs ts
  matched_fit {b} ts m =
      let k : MatchParts L xs (ys ++ zs) ts b = match_parts xs (ys ++ zs) ts b m in
      let l : MatchParts L ys zs k.others k.other = match_parts ys zs k.others k.other k.others_matched in
      three_fit xs ys zs ts k.firsts k.others l.firsts l.others k.terms l.terms (match_count xs k.firsts a k.firsts_matched) (none_matched l.firsts l.firsts_matched)
      (match_count zs l.others c l.others_matched)

  -- so does what splits behind the first part
  behind_fit : {n : ℕ} {s : Spot} (ts us rest : List Tree) → ts ≡ us ++ rest → length us ≡ length xs → SplitParts L n ys zs rest s → Fits xs ys zs ts
  behind_fit ts us rest e d (first_split vs ws f h m p) =
      three_fit xs ys zs ts us rest vs ws e f d (λ z. split_count ys vs (ap are_single z) h ∙ ap length z) (match_count zs ws c m)
  behind_fit ts us rest e d (other_split vs ws f m h p) = three_fit xs ys zs ts us rest vs ws e f d (none_matched vs m) (split_count zs ws c h)

  -- and what splits at all
  split_fit : {n : ℕ} {r : Spot} (ts : List Tree) → SplitParts L n xs (ys ++ zs) ts r → Fits xs ys zs ts
  split_fit ts (first_split us rest {d = d} e h m p) =
      let l : MatchParts L ys zs rest d = match_parts ys zs rest d m in
      three_fit xs ys zs ts us rest l.firsts l.others e l.terms (split_count xs us a h) (none_matched l.firsts l.firsts_matched) (match_count zs l.others c l.others_matched)
  split_fit {n} ts (other_split us rest {s = s} e m h p) = behind_fit ts us rest e (match_count xs us a m) (split_parts ys zs (n + length us) rest s h)

-- what does not fit is neither matched nor split
cannot_fit : (xs ys zs : List Slot) (mark : Option ℕ) (ts : List Tree) → are_single xs ≡ true → are_single zs ≡ true → (Fits xs ys zs ts → ⊥)
    → CannotFit (xs ++ (ys ++ zs)) (list mark (trees ts))
cannot_fit xs ys zs mark ts a c f = record {
  matches = λ L b m. f (matched_fit xs ys zs a c ts (list_inside m));
  splits = λ L s h. f (split_fit xs ys zs a c ts (split_parts xs (ys ++ zs) 0 ts s (items_split s h)));
}

-- too few terms
pub too_few : (xs ys zs : List Slot) (mark : Option ℕ) (ts : List Tree) → are_single xs ≡ true → are_single zs ≡ true → length ts < length xs + length zs
    → CannotFit (xs ++ (ys ++ zs)) (list mark (trees ts))
too_few xs ys zs mark ts a c h = cannot_fit xs ys zs mark ts a c (λ f. let k = f.least in omega arith)

-- too many, where there is no item in the middle
pub too_many : (xs ys zs : List Slot) (mark : Option ℕ) (ts : List Tree) → are_single xs ≡ true → are_single zs ≡ true → ys ≡ [] → length xs + length zs < length ts
    → CannotFit (xs ++ (ys ++ zs)) (list mark (trees ts))
too_many xs ys zs mark ts a c e h = cannot_fit xs ys zs mark ts a c (λ f. let k = f.exact e in omega arith)

-- ---- the parts are fixed

-- lists in two parts, of which the first are as long, have the same parts
same_parts : {A : Type 0} (us vs ws xs : List A) → us ++ vs ≡ ws ++ xs → length us ≡ length ws → (us ≡ ws) × (vs ≡ xs)
same_parts [] vs [] xs e h = (refl, e)
same_parts [] vs (w ∷ ws) xs e h = absurd (omega arith)
same_parts (u ∷ us) vs [] xs e h = absurd (omega arith)
same_parts (u ∷ us) vs (w ∷ ws) xs e h =
    let f : u ≡ w = cc in
    let g : us ++ vs ≡ ws ++ xs = cc in
    let k = same_parts us vs ws xs g (omega arith) in
    (λ i. f i ∷ k.0 i, k.1)

-- of which the last are as long
same_last_parts : {A : Type 0} (us vs ws xs : List A) → us ++ vs ≡ ws ++ xs → length vs ≡ length xs → (us ≡ ws) × (vs ≡ xs)
same_last_parts us vs ws xs e h =
    let f = length-append us vs in
    let g = length-append ws xs in
    let k : length (us ++ vs) ≡ length (ws ++ xs) = ap length e in
    same_parts us vs ws xs e (omega arith)

-- one part of the items is of single items, one for each of its terms
abbrev pub OneIsSingle : List Slot → List Slot → List Tree → List Tree → Type 0
OneIsSingle xs ys us vs = AreSingles xs us ⊎ AreSingles ys vs

-- then terms that the parts fit are those
fixed : {xs ys : List Slot} (us vs ws ts : List Tree) → OneIsSingle xs ys us vs → us ++ vs ≡ ws ++ ts → (are_single xs ≡ true → length ws ≡ length xs)
    → (are_single ys ≡ true → length ts ≡ length ys) → (ws ≡ us) × (ts ≡ vs)
fixed us vs ws ts (inl s) e f g = same_parts ws ts us vs (sym e) (f s.single ∙ sym s.as_many)
fixed us vs ws ts (inr s) e f g = same_last_parts ws ts us vs (sym e) (g s.single ∙ sym s.as_many)

-- both parts match their terms
pub record BothMatch (L : Language) (xs ys : List Slot) (us vs : List Tree) (b : Binding) : Type 0 where
  pub first : Binding
  pub other : Binding
  pub first_matched : MatchItems L (items_of xs) (trees us) first
  pub other_matched : MatchItems L (items_of ys) (trees vs) other
  pub joined : IsJoin first other b

-- one part splits its terms, and the other matches its own
pub data OneSplits (L : Language) (n : ℕ) (xs ys : List Slot) (us vs : List Tree) (r : Spot) : Type 0 where
  first_splits : {s : Spot} {d : Binding} → ItemsSplitAt L n (items_of xs) (trees us) s → MatchItems L (items_of ys) (trees vs) d → JoinedSpot s d r → OneSplits L n xs ys us vs r
  other_splits : {s : Spot} {c : Binding} → MatchItems L (items_of xs) (trees us) c → ItemsSplitAt L (n + length us) (items_of ys) (trees vs) s → JoinedSpot s c r → OneSplits L n xs ys us vs r

module _ {L : Language} (xs ys : List Slot) (us vs : List Tree) (o : OneIsSingle xs ys us vs) where
  -- items that match terms match them by these parts
  pub both_match : (b : Binding) → MatchItems L (items_of (xs ++ ys)) (trees (us ++ vs)) b → BothMatch L xs ys us vs b
  both_match b m =
      let k : MatchParts L xs ys (us ++ vs) b = match_parts xs ys (us ++ vs) b m in
      let e = fixed us vs k.firsts k.others o k.terms (λ a. match_count xs k.firsts a k.firsts_matched) (λ a. match_count ys k.others a k.others_matched) in
      record {
        first = k.first;
        other = k.other;
        first_matched = subst (λ (ts : List Tree). MatchItems L (items_of xs) (trees ts) k.first) e.0 k.firsts_matched;
        other_matched = subst (λ (ts : List Tree). MatchItems L (items_of ys) (trees ts) k.other) e.1 k.others_matched;
        joined = k.joined;
      }

  -- and split them by these
  by_parts : {n : ℕ} {r : Spot} → SplitParts L n xs ys (us ++ vs) r → OneSplits L n xs ys us vs r
  by_parts {n} (first_split ws ts {s = s} {d = d} e h m p) =
      let k = fixed us vs ws ts o e (λ a. split_count xs ws a h) (λ a. match_count ys ts a m) in
      first_splits (subst (λ (qs : List Tree). ItemsSplitAt L n (items_of xs) (trees qs) s) k.0 h) (subst (λ (qs : List Tree). MatchItems L (items_of ys) (trees qs) d) k.1 m) p
  by_parts {n} (other_split ws ts {s = s} {c = c} e m h p) =
      let k = fixed us vs ws ts o e (λ a. match_count xs ws a m) (λ a. split_count ys ts a h) in
      let g : ItemsSplitAt L (n + length us) (items_of ys) (trees ts) s = subst (λ (qs : List Tree). ItemsSplitAt L (n + length qs) (items_of ys) (trees ts) s) k.0 h in
      other_splits (subst (λ (qs : List Tree). MatchItems L (items_of xs) (trees qs) c) k.0 m) (subst (λ (qs : List Tree). ItemsSplitAt L (n + length us) (items_of ys) (trees qs) s) k.1 g) p

  pub one_splits_of : (n : ℕ) (r : Spot) → ItemsSplitAt L n (items_of (xs ++ ys)) (trees (us ++ vs)) r → OneSplits L n xs ys us vs r
  one_splits_of n r h = by_parts (split_parts xs ys n (us ++ vs) r h)

-- ---- what is cut where

-- the list is of its two parts
pub of_parts : {A B : Type 0} (f : A → B) (k : ℕ) (l xs ys : List A) → xs ≡ take k l → ys ≡ drop k l → map f l ≡ map f xs ++ map f ys
of_parts f k l xs ys e g = sym (ap (map f) (take-append-drop k l)) ∙ map-append f (take k l) (drop k l) ∙ (λ i. map f (sym e i) ++ map f (sym g i))

-- a list of no members has no images
pub no_length : {A : Type 0} (xs : List A) → length xs ≤ 0 → xs ≡ []
no_length [] h = refl
no_length (x ∷ xs) h = absurd (omega arith)
