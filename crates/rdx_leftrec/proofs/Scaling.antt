-- The number of a nonterminal is above those of its alternatives, where numbers that fall along every step are scaled by more than any height.
use Rattle.std.proofs.Common.{◌≡◌, ℕ, zero, suc, ◌+◌, ◌*◌, ◌<◌, ◌≤◌, Bool, true, false, List, [], ◌∷◌, ◌++◌, length, get_or, max, refl, sym, ap, subst, ◌⊎◌, inl, inr, arith, if◌then◌else◌}
use Rattle.std.proofs.lemmas.Bool.{cases_lt}
use Rattle.std.proofs.Math.Nat.{mul-le-mul_right}
use Rattle.rdx_lang.specs.Empty.{TellsEmpty, is_empty}
use Rattle.rdx_lang.specs.Members.{In, here, there}
use Rattle.rdx_lang.specs.Patterns.{Pattern, wild, of_kind, except, prefix, hole, lit, nt, named, differ, in_hole, hide_hole, closed, seq, Definition, Language}
use Rattle.rdx_lang.specs.LeftNumbers.{left_number}
use Rattle.rdx_lang.specs.Rules.{IsAlternative}
use Rattle.rdx_lang.specs.WellFormed.{defined, IsWellFormed}
use Rattle.rdx_lang.specs.declared.pattern.Ref.{Ref}
use Rattle.rdx_lang.proofs.MemberLaws.{append-left, append-right}
use Rattle.rdx_leftrec.specs.Inside.Components.{AreFalling}
use Rattle.rdx_leftrec.specs.Inside.Leads.{leads, place, targets_of}
use Rattle.rdx_leftrec.specs.Inside.Numbers.{number_at, scaled, height, height_among, height_in}
use Rattle.rdx_leftrec.specs.Inside.Reach.{targets_at}
use Rattle.rdx_leftrec.proofs.Paths.{alternative-step, targets-inside, place-inside}

-- none of these patterns is higher than the greatest height
height-among : (ps : List Pattern) (p : Pattern) → In p ps → height p ≤ height_among ps
height-among [] p h = elim h [ ]
height-among (q ∷ ps) p (here e) = subst (λ (r : Pattern). height r ≤ height_among (q ∷ ps)) (sym e) (omega arith)
height-among (q ∷ ps) p (there h) = let k = height-among ps p h in omega arith

-- nor is an alternative in these definitions
height-in : (ds : List Definition) (d : Definition) (p : Pattern) → In d ds → In p d.1 → height p ≤ height_in ds
height-in [] d p h i = elim h [ ]
height-in (c ∷ ds) d p (here e) i =
    let k = height-among c.1 p (subst (λ (ps : List Pattern). In p ps) (ap (λ (b : Definition). b.1) e) i) in omega arith
height-in (c ∷ ds) d p (there h) i = let k = height-in ds d p h i in omega arith

module _ (E : Ref → Bool) (R : Ref → ℕ) where
  -- n is at most h above the number of one of these nonterminals, or at most h
  abbrev IsOver : List Ref → ℕ → ℕ → Type 0
  IsOver zs h n = ((z : Ref) × In z zs × (n ≤ R z + h)) ⊎ (n ≤ h)

  -- one more above
  over_more : (zs : List Ref) (h n : ℕ) → IsOver zs h n → IsOver zs (h + 1) (n + 1)
  over_more zs h n (inl k) = inl (k.0, k.1, omega (arith, k.2))
  over_more zs h n (inr k) = inr (omega arith)

  -- the greater of two
  over_both : (ys zs : List Ref) (g h m n : ℕ) → IsOver ys g m → IsOver zs h n → IsOver (ys ++ zs) (max g h) (max m n)
  over_both ys zs g h m n a b = elim (cases_lt m n) [ inl l ↦ of_right l b | inr l ↦ of_left l a ]
    where
      of_left : n ≤ m → IsOver ys g m → IsOver (ys ++ zs) (max g h) (max m n)
      of_left l (inl k) = inl (k.0, append-left ys zs k.0 k.1, omega (arith, k.2))
      of_left l (inr k) = inr (omega arith)

      of_right : m < n → IsOver zs h n → IsOver (ys ++ zs) (max g h) (max m n)
      of_right l (inl k) = inl (k.0, append-right ys zs k.0 k.1, omega (arith, k.2))
      of_right l (inr k) = inr (omega arith)

  -- a part that counts, or not
  over_chosen : (b : Bool) (zs : List Ref) (h n : ℕ) → IsOver zs h n → IsOver (if b then zs else []) h (if b then n else 0)
  over_chosen true zs h n k = k
  over_chosen false zs h n k = inr (omega arith)

  -- the number of a pattern is at most its height above that of a nonterminal to which it leads, or at most its height
  left_number-over : (p : Pattern) → IsOver (leads E p) (height p) (left_number E R p)
  left_number-over wild = inr (omega arith)
  left_number-over (of_kind k) = inr (omega arith)
  left_number-over (except rs) = inr (omega arith)
  left_number-over (prefix r) = inr (omega arith)
  left_number-over hole = inr (omega arith)
  left_number-over (lit u) = inr (omega arith)
  left_number-over (nt x) = inl (x, here refl, omega arith)
  left_number-over (named x q) = over_more (leads E q) (height q) (left_number E R q) (left_number-over q)
  left_number-over (differ x q) = over_more (leads E q) (height q) (left_number E R q) (left_number-over q)
  left_number-over (in_hole q r) =
      let right = over_chosen (is_empty E q) (leads E r) (height r) (left_number E R r) (left_number-over r) in
      over_more (leads E q ++ (if is_empty E q then leads E r else [])) (max (height q) (height r)) (max (left_number E R q) (if is_empty E q then left_number E R r else 0))
      (over_both (leads E q) (if is_empty E q then leads E r else []) (height q) (height r) (left_number E R q) (if is_empty E q then left_number E R r else 0) (left_number-over q) right)
  left_number-over (hide_hole q) = over_more (leads E q) (height q) (left_number E R q) (left_number-over q)
  left_number-over (closed q) = over_more (leads E q) (height q) (left_number E R q) (left_number-over q)
  left_number-over (seq ps) = inr (omega arith)

-- the number at a place
number-scaled : (scale : ℕ) (cs : List ℕ) (i : ℕ) → i < length cs → get_or (scaled scale cs) i 0 ≡ (get_or cs i 0 + 1) * scale
number-scaled scale [] i h = absurd (omega arith)
number-scaled scale (c ∷ cs) zero h = refl
number-scaled scale (c ∷ cs) (suc i) h = number-scaled scale cs i (omega arith)

-- scaled numbers leave room for heights
room : (scale m n : ℕ) → n < m → (n + 1) * scale + scale ≤ (m + 1) * scale
room scale m n h = let k : (n + 2) * scale ≤ (m + 1) * scale = mul-le-mul_right scale (omega arith) in grind arith

-- a number with less height than there is room for is below the next
below : {a b c d e f g : ℕ} → a + b ≤ c → d ≡ c → e ≡ a → f ≤ e + g → g < b → f < d
below h i j k l = omega arith

-- a height alone is below each number
alone : {a c d f g : ℕ} → 1 * a ≤ c → d ≡ c → f ≤ g → g < a → f < d
alone h i j k = omega arith

module _ (L : Language) (w : IsWellFormed L) (E : Ref → Bool) (t : TellsEmpty L E) where
  module _ (cs : List ℕ) (a : AreFalling (targets_of E L) cs) (scale : ℕ) (e : scale ≡ height_in L.nonterminals + 1) where
    -- the number of a nonterminal
    abbrev pub number : Ref → ℕ
    number = number_at (defined L) (scaled scale cs)

    -- the number of an alternative is below that of its nonterminal
    pub number-falls : (x : Ref) (p : Pattern) → IsAlternative L x p → left_number E number p < number x
    number-falls x p b = of_either (left_number-over E number p)
      where
        i : ℕ
        i = place x (defined L)

        inside : place x (defined L) < length cs
        inside = let k = place-inside L w E t x p b in let s = a.size in omega arith

        most : height p < scale
        most = let k = height-in L.nonterminals (x, b.all) p b.defined b.among in omega arith

        of_either : IsOver E number (leads E p) (height p) (left_number E number p) → left_number E number p < number x
        of_either (inl l) =
            let j : ℕ = place l.0 (defined L) in
            let h : In j (targets_at (targets_of E L) i) = alternative-step L w E t x p l.0 b l.1 in
            let k : j < length cs = (let m = targets-inside L w E t i j h in let s = a.size in omega arith) in
            let f : get_or cs j 0 < get_or cs i 0 = a.fall i j h in
            let g : (get_or cs j 0 + 1) * scale + scale ≤ (get_or cs i 0 + 1) * scale = room scale (get_or cs i 0) (get_or cs j 0) f in
            let u : number x ≡ (get_or cs i 0 + 1) * scale = number-scaled scale cs i inside in
            let v : number l.0 ≡ (get_or cs j 0 + 1) * scale = number-scaled scale cs j k in
            let y : left_number E number p ≤ number l.0 + height p = l.2 in
            below g u v y most
        of_either (inr l) =
            let g : 1 * scale ≤ (get_or cs i 0 + 1) * scale = mul-le-mul_right scale (omega arith) in
            let u : number x ≡ (get_or cs i 0 + 1) * scale = number-scaled scale cs i inside in
            alone g u l most
