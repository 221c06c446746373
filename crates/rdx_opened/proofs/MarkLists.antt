-- Lists of marks as the code has them.
use Rattle.std.proofs.Common.{◌≡◌, ℕ, zero, suc, ◌+◌, ◌<◌, ◌≤◌, ◌==◌, Bool, true, List, [], ◌∷◌, ◌++◌, length, map, drop, get_or, Option, refl, sym, ap, subst, append-nil, append_assoc, ◌∙◌, arith}
use Rattle.std.proofs.lemmas.Bool.Decides.{nat_tests}
use Rattle.std.proofs.lemmas.List.{map-append}
use Rattle.rdx_lang.specs.Patterns.{Pattern, Items, nil, one, many}
use Rattle.rdx_lang.specs.PatternView.{pattern_of, slot_of, Slot, just, repeated, items_of}
use Rattle.rdx_lang.specs.declared.pattern.Item as code_item
use Rattle.rdx_lang.specs.declared.pattern.Pat as code_pattern
use Rattle.rdx_lang.proofs.ItemsAhead.{ahead-one, ahead-many}
use Rattle.rdx_lang.proofs.PatternEquations.{slot_one, slot_many}
use Rattle.rdx_lang.proofs.Rest.{rest_none}
use Rattle.rdx_opened.specs.Inside.Marks.{OpensBehind, OpensItemsBehind}
use Rattle.rdx_opened.specs.Opening.{Mark, mark_names, Opens}
use Rattle.rdx_opened.proofs.Made.{behind_none, behind_one, behind_many}
use Rattle.rdx_opened.specs.Seeking.{marks_of}
use Rattle.rdx_opened.specs.declared.opening.Mark.{Mark as code_mark}

-- there are as many
pub count_marks : (ms : List code_mark) → length (marks_of ms) ≡ length ms
count_marks [] = refl
count_marks (m ∷ ms) = ap suc (count_marks ms)

-- the next number
pub next_number : (ms : List code_mark) → length ms + 1 ≡ suc (length (marks_of ms))
next_number ms = let e = count_marks ms in omega arith

-- the name of the mark at a place stands there among the names
pub name_at : (ms : List code_mark) (i : ℕ) (m : code_mark) → i < length ms → m ≡ get_or ms i m
    → (i < length (mark_names (marks_of ms))) × (m.name ≡ get_or (mark_names (marks_of ms)) i m.name)
name_at [] i m h e = absurd (omega arith)
name_at (n ∷ ms) zero m h e = (omega arith, ap (λ (k : code_mark). k.name) e)
name_at (n ∷ ms) (suc i) m h e = let k = name_at ms i m (omega arith) e in (let l = k.0 in omega arith, k.1)

-- ---- items that a loop has before it

-- a pattern that opens to itself does so as the code has it
pub opens_at : (p : code_pattern.Pat) (q : Pattern) → pattern_of p ≡ q → Opens q q [] → Opens (pattern_of p) (pattern_of p) []
opens_at p q e h = subst (λ (r : Pattern). Opens r r []) (sym e) h

-- with an item behind those that are found, what comes further comes behind it
found_behind : (found more : List code_item.Item) (item : code_item.Item) (s : Slot) (os : List Slot) → more ≡ found ++ item ∷ [] → slot_of item ≡ s
    → map slot_of found ++ (s ∷ os) ≡ map slot_of more ++ os
found_behind found more item s os e f =
    sym (ap (λ (is : List code_item.Item). map slot_of is ++ os) e
    ∙ ap (λ (ss : List Slot). ss ++ os) (map-append slot_of found (item ∷ []))
    ∙ append_assoc (map slot_of found) (slot_of item ∷ []) os
    ∙ ap (λ (u : Slot). map slot_of found ++ (u ∷ os)) f)

-- whatever the items from place i on open to, all open to those found and that
abbrev pub IsBegun : List ℕ → List Mark → List Mark → List code_item.Item → ℕ → List code_item.Item → Type 0
IsBegun x start now items i found =
    (os : List Slot) (after : List Mark) → OpensItemsBehind x now after (items_of (map slot_of (drop i items))) (items_of os)
    → OpensItemsBehind x start after (items_of (map slot_of items)) (items_of (map slot_of found ++ os))

module _ (x : List ℕ) (start now then : List Mark) (items : List code_item.Item) (i : ℕ) (item : code_item.Item) (h : i < length items)
    (e : item ≡ get_or items i item) (q inner : code_pattern.Pat) (found more : List code_item.Item)
    (k : OpensBehind x now then (pattern_of q) (pattern_of inner)) (begun : IsBegun x start now items i found) where
  -- an item of one term
  pub begun_one : item ≡ code_item.One q → more ≡ found ++ code_item.One inner ∷ [] → IsBegun x start then items (i + 1) more
  begun_one f g os after r =
      subst (λ (ss : List Slot). OpensItemsBehind x start after (items_of (map slot_of items)) (items_of ss))
      (found_behind found more (code_item.One inner) (just (pattern_of inner)) os g (slot_one inner))
      (begun (just (pattern_of inner) ∷ os) after
      (subst (λ (ps : Items). OpensItemsBehind x now after ps (one (pattern_of inner) (items_of os))) (sym (ahead-one items i item h e q f))
      (behind_one x k r)))

  -- a repetition
  pub begun_many : (n l : Option (List ℕ)) → item ≡ code_item.Many q n → l ≡ n → more ≡ found ++ code_item.Many inner l ∷ []
      → IsBegun x start then items (i + 1) more
  begun_many n l f d g os after r =
      subst (λ (ss : List Slot). OpensItemsBehind x start after (items_of (map slot_of items)) (items_of ss))
      (found_behind found more (code_item.Many inner l) (repeated (pattern_of inner) n) os g (slot_many inner l
      ∙ ap (λ m. repeated (pattern_of inner) m) d))
      (begun (repeated (pattern_of inner) n ∷ os) after
      (subst (λ (ps : Items). OpensItemsBehind x now after ps (many (pattern_of inner) n (items_of os))) (sym (ahead-many items i item h e q n f))
      (behind_many x n k r)))

-- in the end all items are open
pub begun_end : (x : List ℕ) (start now : List Mark) (items : List code_item.Item) (i : ℕ) (found : List code_item.Item) → length items ≤ i
    → IsBegun x start now items i found → OpensItemsBehind x start now (items_of (map slot_of items)) (items_of (map slot_of found))
begun_end x start now items i found h begun =
    subst (λ (ss : List Slot). OpensItemsBehind x start now (items_of (map slot_of items)) (items_of ss)) (append-nil (map slot_of found))
    (begun [] now (subst (λ (ss : List Slot). OpensItemsBehind x now now (items_of ss) nil) (sym (rest_none slot_of items i h)) (behind_none x)))

-- ---- no marks

-- what the test for none says
pub none_told : (n : ℕ) (b : Bool) → b ≡ (n == 0) → b ≡ true → n ≡ 0
none_told n b e h = grind (arith, nat_tests)

pub no_marks : (ms : List code_mark) → length ms ≡ 0 → marks_of ms ≡ []
no_marks [] e = refl
no_marks (m ∷ ms) e = absurd (omega arith)
