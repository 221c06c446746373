-- Each step of the loop leaves less to do.
use Rattle.std.proofs.Common.{◌≡◌, ℕ, zero, suc, ◌+◌, ◌*◌, ◌-◌, ◌<◌, ◌≤◌, List, [], ◌∷◌, ◌++◌, length, refl, sym, ◌∙◌, ap, subst, arith, length-append}
use Rattle.std.proofs.Math.Nat.{mul-le-mul}
use Rattle.rdx_term.specs.Tree.{Tree}
use Rattle.rdx_lang.specs.Patterns.{Pattern, Language}
use Rattle.rdx_nodes.specs.Doors.{doors_left, most}
use Rattle.rdx_nodes.specs.declared.setting.Setting.{Setting}
use Rattle.rdx_nodes.proofs.DoorsLeft.{fewer}
use Rattle.rdx_table.specs.Inside.Frames.{TakesUp, is_answered, is_below}
use Rattle.rdx_table.specs.Inside.Looks.{IsStop, Heeds, is_asked, is_opened}
use Rattle.rdx_table.specs.Inside.Remaining.{power, unit_at, answers_left, looks_left, top_left, waiting_left, below_left, all_left}
use Rattle.rdx_table.specs.declared.frame.Frame.{Frame}
use Rattle.rdx_table.specs.declared.task.Answer.{Answer}
use Rattle.rdx_table.specs.declared.task.Stop.{Stop}
use Rattle.rdx_table.specs.declared.task.Task.{Task}

-- ---- plain numbers

-- a power is not zero
power-some : (b n : ℕ) → 1 ≤ b → 1 ≤ power b n
power-some b zero h = omega arith
power-some b (suc n) h = let k : 1 * 1 ≤ b * power b n = mul-le-mul h (power-some b n h) in omega arith

-- one more is b times as much
power-next : (b m i : ℕ) → i < m → power b (m - i) ≡ b * power b (m - suc i)
power-next b m i h = let e : m - i ≡ suc (m - suc i) = omega arith in ap (power b) e

-- a whole task with a lesser unit is less than one of the greater
push-less : (x l m p q : ℕ) → 1 ≤ l → p ≡ (2 * m + 3) * q → 1 ≤ q → x + (l - 1) * p + (2 * m + 1) * q < x + l * p
push-less x l m p q h e i =
    let k : l ≡ l - 1 + 1 = omega arith in
    let d : l * p ≡ (l - 1) * p + p = ap (λ (n : ℕ). n * p) k ∙ omega arith in
    let a : (2 * m + 1) * q + 2 * q ≡ (2 * m + 3) * q = omega arith in
    omega (arith, d, e, a, i)

-- a lesser count of the same unit is less
count-less : (x l m p : ℕ) → m < l → 1 ≤ p → x + m * p < x + l * p
count-less x l m p h i =
    let a : (m + 1) * p ≤ l * p = mul-le-mul (let k : m + 1 ≤ l = omega arith in k) (let j : p ≤ p = omega arith in j) in
    omega arith

-- the same, where something more was left
pop-less : (x l m p n q : ℕ) → m ≤ l → 1 ≤ n → 1 ≤ q → x + m * p < x + l * p + n * q
pop-less x l m p n q h k i =
    let a : m * p ≤ l * p = mul-le-mul h (let j : p ≤ p = omega arith in j) in
    let b : 1 * 1 ≤ n * q = mul-le-mul k i in
    omega arith

-- a unit is not zero
unit-some : (i : ℕ) → 1 ≤ unit_at i
unit-some i = power-some (2 * most + 3) (most - i) (omega arith)

-- ---- what is left to do

-- one frame more that waits
below_left-push : (i : ℕ) (fs : List Frame) (f : Frame) → below_left i (fs ++ f ∷ []) ≡ below_left i fs + waiting_left f * unit_at (i + length fs)
below_left-push i [] f =
    let e : i ≡ i + 0 = omega arith in
    subst (λ (j : ℕ). waiting_left f * unit_at i + 0 ≡ 0 + waiting_left f * unit_at j) e (omega arith)
below_left-push i (k ∷ fs) f =
    let e : suc i + length fs ≡ i + suc (length fs) = omega arith in
    let h : below_left (suc i) (fs ++ f ∷ []) ≡ below_left (suc i) fs + waiting_left f * unit_at (i + suc (length fs)) =
    below_left-push (suc i) fs f ∙ ap (λ (j : ℕ). below_left (suc i) fs + waiting_left f * unit_at j) e in
    omega (arith, h)

-- from the bottom
below_left-last : (fs : List Frame) (f : Frame) → below_left 0 (fs ++ f ∷ []) ≡ below_left 0 fs + waiting_left f * unit_at (length fs)
below_left-last fs f =
    let e : 0 + length fs ≡ length fs = omega arith in
    below_left-push 0 fs f ∙ ap (λ (j : ℕ). below_left 0 fs + waiting_left f * unit_at j) e

-- where something is wanted no look is next
looks-none : (xs : List Task) (x : Task) → looks_left (xs ++ x ∷ []) ≡ 0
looks-none [] x = refl
looks-none (y ∷ xs) x = refl

-- one look at most is next
looks-one : (xs : List Task) → looks_left xs ≤ 1
looks-one [] = omega arith
looks-one (x ∷ xs) = omega arith

-- one answer more leaves less, by two
answers-fewer : (f h : Frame) (x : Answer) → h.answers.items ≡ f.answers.items ++ x ∷ [] → answers_left h + 2 ≡ answers_left f
answers-fewer f h x e =
    let n : length h.answers.items ≡ length f.answers.items + 1 = ap length e ∙ length-append f.answers.items (x ∷ []) in
    let l : length f.answers.items < most = fewer f.answers in
    omega (arith, n, l)

-- an answer at the top
pub left-answered : (fs : List Frame) (f h : Frame) (x : Answer) (ws : List Task) (w : Task) → f.wanted.items ≡ ws ++ w ∷ []
    → h.answers.items ≡ f.answers.items ++ x ∷ [] → all_left fs h < all_left fs f
left-answered fs f h x ws w d e =
    let a : answers_left h + 2 ≡ answers_left f = answers-fewer f h x e in
    let n : looks_left h.wanted.items ≤ 1 = looks-one h.wanted.items in
    count-less (below_left 0 fs) (top_left f) (top_left h) (unit_at (length fs)) (omega (arith, a, n)) (unit-some (length fs))

-- tasks that are wanted at the top
pub left-asked : (fs : List Frame) (f h : Frame) → f.wanted.items ≡ [] → ¬ (h.wanted.items ≡ []) → h.answers.items ≡ f.answers.items
    → all_left fs h < all_left fs f
left-asked fs f h d n e =
    let a : answers_left h ≡ answers_left f = ap (λ (xs : List Answer). 2 * (most - length xs)) e in
    let b : looks_left f.wanted.items ≡ 1 = ap looks_left d in
    let c : looks_left h.wanted.items ≡ 0 = some_wanted h.wanted.items n in
    count-less (below_left 0 fs) (top_left f) (top_left h) (unit_at (length fs)) (omega (arith, a, b, c)) (unit-some (length fs))
  where
    some_wanted : (xs : List Task) → ¬ (xs ≡ []) → looks_left xs ≡ 0
    some_wanted [] m = absurd (m refl)
    some_wanted (x ∷ xs) m = refl

-- a new frame on top
pub left-pushed : (fs bs : List Frame) (f k h : Frame) → length fs < most → bs ≡ fs ++ k ∷ [] → k.answers.items ≡ f.answers.items
    → h.answers.items ≡ [] → h.wanted.items ≡ [] → all_left bs h < all_left fs f
left-pushed fs bs f k h l d e a w =
    let x : ℕ = below_left 0 fs in
    let n : ℕ = answers_left f in
    let p : ℕ = unit_at (length fs) in
    let q : ℕ = unit_at (suc (length fs)) in
    let u : waiting_left k ≡ n - 1 = ap (λ (xs : List Answer). 2 * (most - length xs) - 1) e in
    let y : below_left 0 bs ≡ x + (n - 1) * p = ap (below_left 0) d ∙ below_left-last fs k ∙ ap (λ (j : ℕ). x + j * p) u in
    let z : top_left h ≡ 2 * most + 1 = some_top h a w in
    let i : length bs ≡ suc (length fs) = ap length d ∙ length-append fs (k ∷ []) ∙ omega arith in
    let s : length f.answers.items < most = fewer f.answers in
    let o : 1 ≤ n = omega (arith, s) in
    let r : x + (n - 1) * p + (2 * most + 1) * q < x + n * p =
    push-less x n most p q o (power-next (2 * most + 3) most (length fs) l) (unit-some (suc (length fs))) in
    let t : n * p ≤ top_left f * p = mul-le-mul (let j : n ≤ top_left f = omega arith in j) (let j : p ≤ p = omega arith in j) in
    let v : all_left bs h ≡ x + (n - 1) * p + (2 * most + 1) * q =
    ap (λ (j : ℕ). below_left 0 bs + top_left h * unit_at j) i
    ∙ ap (λ (j : ℕ). below_left 0 bs + j * q) z
    ∙ ap (λ (j : ℕ). j + (2 * most + 1) * q) y in
    whole (all_left bs h) (x + (n - 1) * p + (2 * most + 1) * q) x (n * p) (top_left f * p) v r t
  where
    some_top : (g : Frame) → g.answers.items ≡ [] → g.wanted.items ≡ [] → top_left g ≡ 2 * most + 1
    some_top g b c =
        ap (λ (xs : List Answer). 2 * (most - length xs) + looks_left g.wanted.items) b
        ∙ ap (λ (xs : List Task). 2 * (most - 0) + looks_left xs) c
        ∙ omega arith

    whole : (m r0 y s0 t0 : ℕ) → m ≡ r0 → r0 < y + s0 → s0 ≤ t0 → m < y + t0
    whole m r0 y s0 t0 b c g = omega arith

-- the top is taken off, and what was found for it is an answer below
pub left-popped : (bs fs : List Frame) (t f h : Frame) (x : Answer) → bs ≡ fs ++ f ∷ [] → t.wanted.items ≡ []
    → h.answers.items ≡ f.answers.items ++ x ∷ [] → all_left fs h < all_left bs t
left-popped bs fs t f h x d w e =
    let y : ℕ = below_left 0 fs in
    let p : ℕ = unit_at (length fs) in
    let a : answers_left h + 2 ≡ answers_left f = answers-fewer f h x e in
    let n : looks_left h.wanted.items ≤ 1 = looks-one h.wanted.items in
    let b : looks_left t.wanted.items ≡ 1 = ap looks_left w in
    let c : below_left 0 bs ≡ y + waiting_left f * p = ap (below_left 0) d ∙ below_left-last fs f in
    let r : y + top_left h * p < y + waiting_left f * p + top_left t * unit_at (length bs) =
    pop-less y (waiting_left f) (top_left h) p (top_left t) (unit_at (length bs)) (omega (arith, a, n)) (omega (arith, b)) (unit-some (length bs)) in
    subst (λ (j : ℕ). y + top_left h * p < j + top_left t * unit_at (length bs)) (sym c) r

-- the top f takes up x, which was the last that it wants: it is g without that
pub left-taken : {L : Language} {ps : List Pattern} {ts : List Tree} (f g k : Frame) (x : Task) (old new : List Frame) → length old < most
    → g.answers ≡ f.answers → f.wanted.items ≡ g.wanted.items ++ x ∷ [] → TakesUp L ps ts g x old new k → all_left new k < all_left old f
left-taken f g k x old new l h i (is_answered rows a d e w) =
    let y : Answer = record { task = x; rows = rows } in
    left-answered old f k y g.wanted.items x i (e ∙ ap (λ (v : _). v.items ++ y ∷ []) h)
left-taken f g k x old new l h i (is_below n d e w) = left-pushed old new f g k l n (ap (λ (v : _). v.items) h) e w

-- as much, and less, is less
less-behind : (m n a b : ℕ) → m ≡ n → a < b → m + a < n + b
less-behind m n a b e h = omega (arith, e, h)

less-before : (m n d : ℕ) → m < n → m + d < n + d
less-before m n d h = omega arith

-- what is done where a look at the top stops, of which nothing is wanted
pub left-heeded : {s t : Setting} {k : Frame} {x : Stop} (fs : List Frame) (f g : Frame) → g.answers.items ≡ f.answers.items → f.wanted.items ≡ []
    → g.wanted.items ≡ [] → IsStop s x → Heeds s g x t k → all_left fs k + doors_left t < all_left fs f + doors_left s
left-heeded {s} {k = k} fs f g a d e i (is_asked) = less-before _ _ (doors_left s) (left-asked fs f k d i.some a)
left-heeded fs f g a d e i (is_opened r h l) =
    let n : answers_left g ≡ answers_left f = ap (λ (xs : List Answer). 2 * (most - length xs)) a in
    let w : looks_left g.wanted.items ≡ looks_left f.wanted.items = ap looks_left (e ∙ sym d) in
    let q : top_left g ≡ top_left f = omega (arith, n, w) in
    less-behind _ _ _ _ (ap (λ (j : ℕ). below_left 0 fs + j * unit_at (length fs)) q) l
