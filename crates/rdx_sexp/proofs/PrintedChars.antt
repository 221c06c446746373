-- The characters of a printed term, and that its bytes are these in UTF-8.
use Rattle.std.proofs.Common.{◌≡◌, ◌<◌, ◌≤◌, ◌==◌, ℕ, suc, Bool, true, false, List, [], ◌∷◌, ◌++◌, length, get_or, IsUtf8, chars, encode_utf8_all, codes, inl, inr, refl, sym, ap, ap₂, ◌∙◌, subst, append_assoc, append-nil, ltb-true, ne_eqb, arith}
use Rattle.std.proofs.lemmas.Bool.{and_parts, and_from, cases_lt}
use Rattle.std.proofs.lemmas.Str.{encode_ascii, encodes-chars, scalars-chars, chars-encodes, encodes-append, inside_one}
use Rattle.std.specs.List.{list_all}
use Rattle.std.specs.Fmt.{signed_decimal}
use Rattle.std.proofs.Math.Utf8.{scalar, scalars, encode, low_scalar}
use Rattle.rdx_term.specs.Text.{escaped, all_escaped, truth_text, tree_text, trees_text, spaced_text}
use Rattle.rdx_term.specs.Tree.{Tree, Trees, hole, integer, truth, text, symbol, list, nil, cons}
use Rattle.rdx_term.specs.Terms.{IsSpelled, AreSpelled}
use Rattle.rdx_sexp.proofs.PrintedTests.{if-false, is_ascii, holds_below}
use Rattle.rdx_sexp.proofs.PrintedIntegers.{IsInteger-signed_decimal, IsInteger-ascii}

-- ---- what a text is in UTF-8

-- these characters are these bytes
pub record Encodes (cs bs : List ℕ) : Type 0 where
  pub valid : scalars cs ≡ true
  pub same : encode_utf8_all cs ≡ bs

-- so the bytes are UTF-8
pub IsUtf8-Encodes : (cs bs : List ℕ) → Encodes cs bs → IsUtf8 bs
IsUtf8-Encodes cs bs e = (cs, (e.valid, e.same))

-- and their characters are these
pub chars-Encodes : (cs bs : List ℕ) → Encodes cs bs → chars bs ≡ cs
chars-Encodes cs bs e = ap chars (sym e.same) ∙ chars-encodes cs e.valid

-- one list of characters behind another
scalars-append : (xs ys : List ℕ) → scalars xs ≡ true → scalars ys ≡ true → scalars (xs ++ ys) ≡ true
scalars-append [] ys h k = k
scalars-append (x ∷ xs) ys h k =
    let p = and_parts (scalar x) (scalars xs) h in
    and_from (scalar x) (scalars (xs ++ ys)) p.0 (scalars-append xs ys p.1 k)

-- one text behind another
pub Encodes-append : (xs ys bs ds : List ℕ) → Encodes xs bs → Encodes ys ds → Encodes (xs ++ ys) (bs ++ ds)
Encodes-append xs ys bs ds e f = record {
  valid = scalars-append xs ys e.valid f.valid;
  same = encodes-append xs ys ∙ ap₂ (λ (a b : List ℕ). a ++ b) e.same f.same;
}

-- UTF-8 text
pub Encodes-chars : (bs : List ℕ) → IsUtf8 bs → Encodes (chars bs) bs
Encodes-chars bs u = record { valid = scalars-chars bs u; same = encodes-chars bs u }

-- one ASCII character in front
pub Encodes-ascii : (c : ℕ) (cs bs : List ℕ) → c < 128 → Encodes cs bs → Encodes (c ∷ cs) (c ∷ bs)
Encodes-ascii c cs bs h e = record {
  valid = and_from (scalar c) (scalars cs) (low_scalar c (omega arith)) e.valid;
  same = ap₂ (λ (a b : List ℕ). a ++ b) (encode_ascii c h) e.same;
}

-- several in front
pub Encodes-all_ascii : (xs cs bs : List ℕ) → list_all is_ascii xs ≡ true → Encodes cs bs → Encodes (xs ++ cs) (xs ++ bs)
Encodes-all_ascii [] cs bs h e = e
Encodes-all_ascii (x ∷ xs) cs bs h e =
    let p = and_parts (is_ascii x) (list_all is_ascii xs) h in
    Encodes-ascii x (xs ++ cs) (xs ++ bs) (ltb-true x 128 p.0) (Encodes-all_ascii xs cs bs p.1 e)

-- ASCII alone
pub encode_utf8_all-ascii : (xs : List ℕ) → list_all is_ascii xs ≡ true → encode_utf8_all xs ≡ xs
encode_utf8_all-ascii xs h = subst (λ (l : List ℕ). encode_utf8_all l ≡ l) (append-nil xs) (Encodes-all_ascii xs [] [] h (record { valid = refl; same = refl })).same

-- ---- escapes: those of the characters of a text are the characters of those of its bytes

-- what is not ASCII has no escape
escaped-high : (c : ℕ) → 128 ≤ c → escaped c ≡ c ∷ []
escaped-high c h =
    if-false (c == 34) _ _ (ne_eqb c 34 (λ e. omega arith)) ∙ if-false (c == 92) _ _ (ne_eqb c 92 (λ e. omega arith))
    ∙ if-false (c == 10) _ _ (ne_eqb c 10 (λ e. omega arith)) ∙ if-false (c == 9) _ _ (ne_eqb c 9 (λ e. omega arith))
    ∙ if-false (c == 13) _ _ (ne_eqb c 13 (λ e. omega arith))

-- what is has one of ASCII characters
escaped-ascii : (c : ℕ) → c < 128 → list_all is_ascii (escaped c) ≡ true
escaped-ascii c h = holds_below (λ (x : ℕ). list_all is_ascii (escaped x)) 128 refl c h

-- those of one text behind another
all_escaped-append : (xs ys : List ℕ) → all_escaped (xs ++ ys) ≡ all_escaped xs ++ all_escaped ys
all_escaped-append [] ys = refl
all_escaped-append (x ∷ xs) ys = ap (λ (l : List ℕ). escaped x ++ l) (all_escaped-append xs ys) ∙ sym (append_assoc (escaped x) (all_escaped xs) (all_escaped ys))

-- bytes that are not ASCII have none
all_escaped-high : (xs : List ℕ) → ((k : ℕ) → k < length xs → 128 ≤ get_or xs k 0) → all_escaped xs ≡ xs
all_escaped-high [] h = refl
all_escaped-high (x ∷ xs) h =
    ap₂ (λ (a b : List ℕ). a ++ b) (escaped-high x (h 0 (omega arith))) (all_escaped-high xs (λ k below. h (suc k) (omega arith)))

-- the bytes of a character that is not ASCII
encode-high : (c : ℕ) → 128 ≤ c → (k : ℕ) → k < length (encode c) → 128 ≤ get_or (encode c) k 0
encode-high c h k below = elim (cases_lt (get_or (encode c) k 0) 128) [
  | inl low ↦ absurd (omega (arith, inside_one c [] (encode c) k (sym (append-nil _)) below low))
  | inr high ↦ high
]

-- one character
Encodes-escaped : (c : ℕ) (cs bs : List ℕ) → scalar c ≡ true → Encodes cs bs → Encodes (escaped c ++ cs) (all_escaped (encode c) ++ bs)
Encodes-escaped c cs bs s e = elim (cases_lt c 128) [
  | inl low ↦
      let same : all_escaped (encode c) ≡ escaped c = ap all_escaped (encode_ascii c low) ∙ append-nil (escaped c) in
      subst (λ (l : List ℕ). Encodes (escaped c ++ cs) (l ++ bs)) (sym same) (Encodes-all_ascii (escaped c) cs bs (escaped-ascii c low) e)
  | inr high ↦
      let same : all_escaped (encode c) ≡ encode c = all_escaped-high (encode c) (encode-high c high) in
      let here : Encodes (c ∷ cs) (encode c ++ bs) = record { valid = and_from (scalar c) (scalars cs) s e.valid; same = ap (λ (l : List ℕ). encode c ++ l) e.same } in
      subst (λ (l : List ℕ). Encodes (escaped c ++ cs) (l ++ bs)) (sym same) (subst (λ (l : List ℕ). Encodes (l ++ cs) (encode c ++ bs)) (sym (escaped-high c high)) here)
]

-- all of a text
pub Encodes-all_escaped : (xs cs bs : List ℕ) → scalars xs ≡ true → Encodes cs bs → Encodes (all_escaped xs ++ cs) (all_escaped (encode_utf8_all xs) ++ bs)
Encodes-all_escaped [] cs bs s e = e
Encodes-all_escaped (x ∷ xs) cs bs s e =
    let p = and_parts (scalar x) (scalars xs) s in
    let more = Encodes-all_escaped xs cs bs p.1 e in
    let all = Encodes-escaped x (all_escaped xs ++ cs) (all_escaped (encode_utf8_all xs) ++ bs) p.0 more in
    let left : escaped x ++ (all_escaped xs ++ cs) ≡ all_escaped (x ∷ xs) ++ cs = sym (append_assoc (escaped x) (all_escaped xs) cs) in
    let right : all_escaped (encode x) ++ (all_escaped (encode_utf8_all xs) ++ bs) ≡ all_escaped (encode_utf8_all (x ∷ xs)) ++ bs =
    sym (append_assoc (all_escaped (encode x)) (all_escaped (encode_utf8_all xs)) bs) ∙ ap (λ (l : List ℕ). l ++ bs) (sym (all_escaped-append (encode x) (encode_utf8_all xs))) in
    subst (λ (l : List ℕ). Encodes l (all_escaped (encode_utf8_all (x ∷ xs)) ++ bs)) left (subst (λ (l : List ℕ). Encodes (escaped x ++ (all_escaped xs ++ cs)) l) right all)

-- ---- trees

-- the characters of a printed tree, in front of these
abbrev mutual
  pub tree_chars : Tree → List ℕ → List ℕ
  tree_chars hole rest = codes "hole" ++ rest
  tree_chars (integer n) rest = signed_decimal n ++ rest
  tree_chars (truth b) rest = truth_text b ++ rest
  tree_chars (text s) rest = 34 ∷ (all_escaped (chars s) ++ (34 ∷ rest))
  tree_chars (symbol s) rest = chars s ++ rest
  tree_chars (list m ts) rest = 40 ∷ trees_chars ts (41 ∷ rest)

  -- those of the items of a list, with one space between two
  pub trees_chars : Trees → List ℕ → List ℕ
  trees_chars nil rest = rest
  trees_chars (cons t ts) rest = tree_chars t (spaced_chars ts rest)

  -- with a space before each
  pub spaced_chars : Trees → List ℕ → List ℕ
  spaced_chars nil rest = rest
  spaced_chars (cons t ts) rest = 32 ∷ tree_chars t (spaced_chars ts rest)

-- a truth value is printed in ASCII
pub truth_text-ascii : (b : Bool) → list_all is_ascii (truth_text b) ≡ true
truth_text-ascii true = refl
truth_text-ascii false = refl

-- where the tree is spelled, its printed bytes are these characters
mutual
  pub Encodes-tree : (t : Tree) (cs bs : List ℕ) → IsSpelled t → Encodes cs bs → Encodes (tree_chars t cs) (tree_text t ++ bs)
  Encodes-tree hole cs bs s e = Encodes-all_ascii (codes "hole") cs bs refl e
  Encodes-tree (integer n) cs bs s e = Encodes-all_ascii (signed_decimal n) cs bs (IsInteger-ascii n (signed_decimal n) (IsInteger-signed_decimal n s)) e
  Encodes-tree (truth b) cs bs s e = Encodes-all_ascii (truth_text b) cs bs (truth_text-ascii b) e
  Encodes-tree (text t) cs bs s e =
      let inner = Encodes-all_escaped (chars t) (34 ∷ cs) (34 ∷ bs) (scalars-chars t s) (Encodes-ascii 34 cs bs (omega arith) e) in
      let same : all_escaped (encode_utf8_all (chars t)) ++ (34 ∷ bs) ≡ (all_escaped t ++ (34 ∷ [])) ++ bs =
      ap (λ (l : List ℕ). all_escaped l ++ (34 ∷ bs)) (encodes-chars t s) ∙ sym (append_assoc (all_escaped t) (34 ∷ []) bs) in
      Encodes-ascii 34 _ _ (omega arith) (subst (λ (l : List ℕ). Encodes (all_escaped (chars t) ++ (34 ∷ cs)) l) same inner)
  Encodes-tree (symbol t) cs bs s e = Encodes-append (chars t) cs t bs (Encodes-chars t s.0) e
  Encodes-tree (list m ts) cs bs s e =
      let inner = Encodes-trees ts (41 ∷ cs) (41 ∷ bs) s (Encodes-ascii 41 cs bs (omega arith) e) in
      Encodes-ascii 40 _ _ (omega arith) (subst (λ (l : List ℕ). Encodes (trees_chars ts (41 ∷ cs)) l) (sym (append_assoc (trees_text ts) (41 ∷ []) bs)) inner)

  -- the same of the items of a list
  Encodes-trees : (ts : Trees) (cs bs : List ℕ) → AreSpelled ts → Encodes cs bs → Encodes (trees_chars ts cs) (trees_text ts ++ bs)
  Encodes-trees nil cs bs s e = e
  Encodes-trees (cons t ts) cs bs s e =
      let more = Encodes-spaced ts cs bs s.1 e in
      subst (λ (l : List ℕ). Encodes (tree_chars t (spaced_chars ts cs)) l) (sym (append_assoc (tree_text t) (spaced_text ts) bs)) (Encodes-tree t _ _ s.0 more)

  -- with a space before each
  Encodes-spaced : (ts : Trees) (cs bs : List ℕ) → AreSpelled ts → Encodes cs bs → Encodes (spaced_chars ts cs) (spaced_text ts ++ bs)
  Encodes-spaced nil cs bs s e = e
  Encodes-spaced (cons t ts) cs bs s e =
      let more = Encodes-spaced ts cs bs s.1 e in
      let inner = subst (λ (l : List ℕ). Encodes (tree_chars t (spaced_chars ts cs)) l) (sym (append_assoc (tree_text t) (spaced_text ts) bs)) (Encodes-tree t _ _ s.0 more) in
      Encodes-ascii 32 _ _ (omega arith) inner
