-- Single steps of making a template: what comes next, and what is put on the frames, gives only what was asked for.
use Rattle.std.proofs.Common.{◌≡◌, ◌<◌, ◌≤◌, ◌+◌, ◌-◌, ◌*◌, ℕ, suc, List, [], ◌∷◌, ◌++◌, length, take, refl, sym, ◌∙◌, ap, subst, arith}
use Rattle.std.proofs.Math.Nat.{suc-mul, mul-le-mul_right}
use Rattle.std.proofs.Math.Seq.{take-append_seam}
use Rattle.std.proofs.lemmas.List.{append-nil, length-append}
use Rattle.std.specs.Prelude.{Result, Ok, Err, IsErrAnd}
use Rattle.rdx_term.specs.Tree.{Tree}
use Rattle.rdx_lang.specs.Bindings.{Binding}
use Rattle.rdx_lang.specs.Templates.{Template, Items, Hosts, seq, call, many, apply, none}
use Rattle.rdx_lang.specs.declared.operation.HostOp.{HostOp}
use Rattle.rdx_lang.specs.declared.template.HostExpr as code_host
use Rattle.rdx_eval.specs.Answers as answers
use Rattle.rdx_eval.specs.Answers.{Answer, value, fault, Then, stops, goes}
use Rattle.rdx_eval.specs.Calls.{Calls}
use Rattle.rdx_eval.specs.Instantiation.{Inst, InstItems, InstHost, EachTurn, agree, numbers}
use Rattle.rdx_eval.specs.Inside.Frames.{Onto, Finish, RowGives, TurnsGive, ArgumentsGive, Gives, After, turn_of, Steps, stays, pushes, Goes}
use Rattle.rdx_eval.specs.Inside.Parts.{hosts_in}
use Rattle.rdx_eval.specs.Inside.Stops.{Tells}
use Rattle.rdx_eval.specs.Inside.Weights.{next_weight, frame_weight}
use Rattle.rdx_eval.specs.Making.{IsList}
use Rattle.rdx_eval.specs.Turns.{lengths}
use Rattle.rdx_eval.specs.declared.frames.Aim.{Aim}
use Rattle.rdx_eval.specs.declared.frames.Aim.TheVariants as aims
use Rattle.rdx_eval.specs.declared.frames.Frame.{Frame}
use Rattle.rdx_eval.specs.declared.frames.Next.{Next}
use Rattle.rdx_eval.specs.declared.stop.Stop.{Stop}
use Rattle.rdx_eval.specs.declared.stop.Stop.TheVariants.{Fault, NoMemory}
use Rattle.rdx_eval.proofs.Pending.{then-join, onto-both, onto-turns, onto-turn, onto-no_turn}

-- ---- numbers and lists

-- the first of n turns, and the others, weigh less than all that may be
pub first_turn-less : (w s n : ℕ) → 0 < n → n < 18446744073709551616 → (n - 1) * (w + 1) + (s + 3) + w < 18446744073709551616 * (w + 1) + s + 2 + 2
first_turn-less w s n l h =
    let k : n ≡ suc (n - 1) = omega (arith, l) in
    let e : n * (w + 1) ≡ (n - 1) * (w + 1) + (w + 1) = ap (λ (i : ℕ). i * (w + 1)) k ∙ suc-mul (n - 1) (w + 1) in
    let j : n ≤ 18446744073709551616 = omega (arith, h) in
    let d : n * (w + 1) ≤ 18446744073709551616 * (w + 1) = mul-le-mul_right (w + 1) j in
    omega (arith, e, d)

-- the next turn, and those behind it, weigh less than it does with them
pub next_turn-less : (w s x i n : ℕ) → x ≡ s → i + 1 < n → (n - suc (i + 1)) * (w + 1) + (x + 3) + w < (n - suc i) * (w + 1) + (s + 3)
next_turn-less w s x i n q l =
    let k : n - suc i ≡ suc (n - suc (i + 1)) = omega (arith, l) in
    let e : (n - suc i) * (w + 1) ≡ (n - suc (i + 1)) * (w + 1) + (w + 1) = ap (λ (j : ℕ). j * (w + 1)) k ∙ suc-mul (n - suc (i + 1)) (w + 1) in
    omega (arith, e, q)

-- what comes behind the last turn weighs less than it does with that
pub last_turn-less : (p s x : ℕ) → x ≡ s → x + 2 < p + (s + 3)
last_turn-less p s x q = omega (arith, q)

-- so does what comes behind an item
pub item-less : (s x : ℕ) → x ≡ s → x + 2 < s + 3
item-less s x q = omega (arith, q)

-- what is left of a list without its last
pub taken_off : (xs ys is : List ℕ) (i n : ℕ) → ys ≡ take (n - 1) xs → n ≡ length xs → xs ≡ is ++ i ∷ [] → ys ≡ is
taken_off xs ys is i n d l e =
    let k : length xs ≡ length is + 1 = ap length e ∙ length-append is (i ∷ []) in
    let m : n - 1 ≡ length is = omega (arith, k, l) in
    d ∙ ap (λ (j : ℕ). take j xs) m ∙ ap (take (length is)) e ∙ take-append_seam is (i ∷ [])

-- no host expressions
pub hosts-none : (hs : List code_host.HostExpr) → length hs ≡ 0 → hosts_in hs ≡ none
hosts-none [] e = refl
hosts-none (h ∷ hs) e = absurd (omega arith)

module _ (C : Calls) (b : Binding) where
  -- ---- steps

  -- a step that is one of less
  pub goes-less : (R S : Answer Tree → Type 0) (m o : ℕ) (is js : List ℕ) (ws vs : List Frame) (r : Result Next Stop) → m ≤ o → ((q : Answer Tree) → R q → S q)
      → Goes C b R m is ws js vs r → Goes C b S o is ws js vs r
  goes-less R S m o is js ws vs (Ok n) p k (stays d e l h) = stays d e (omega (arith, l, p)) (λ q l. k q (h q l))
  goes-less R S m o is js ws vs (Ok n) p k (pushes w d e l h) = pushes w d e (omega (arith, l, p)) (λ q l. k q (h q l))
  goes-less R S m o is js ws vs (Err (Fault f)) p k h = k _ h
  goes-less R S m o is js ws vs (Err NoMemory) p k h = tt

  -- a stop
  same_stop : {A B : Type 0} (view : A → B) (R : Answer B → Type 0) (S : Answer Tree → Type 0) (m : ℕ) (is js : List ℕ) (ws vs : List Frame) (s : Stop)
      → ((f : answers.Fault) → R (fault f) → S (fault f)) → Tells view R (Err s) → Goes C b S m is ws js vs (Err s)
  same_stop view R S m is js ws vs (Fault f) k h = k _ h
  same_stop view R S m is js ws vs NoMemory k h = tt

  -- an error by `?`
  pub goes-error : {A B : Type 0} (view : A → B) (R : Answer B → Type 0) (S : Answer Tree → Type 0) (m : ℕ) (is js : List ℕ) (ws vs : List Frame)
      (r : Result Next Stop) (s : Stop) → IsErrAnd r (λ q. q ≡ s) → ((f : answers.Fault) → R (fault f) → S (fault f)) → Tells view R (Err s)
      → Goes C b S m is ws js vs r
  goes-error view R S m is js ws vs (Ok n) s d k h = absurd d
  goes-error view R S m is js ws vs (Err q) s d k h =
      subst (λ (p : Stop). Goes C b S m is ws js vs (Err p)) (sym d) (same_stop view R S m is js ws vs s k h)

  -- one frame more that takes no turn
  pub push-plain : (R : Answer Tree → Type 0) (m : ℕ) (is : List ℕ) (ws vs : List Frame) (n : Next) (w : Frame) → turn_of w ≡ [] → vs ≡ ws ++ w ∷ [] → frame_weight w + next_weight n < m
      → ((r : Answer Tree) → Then (Gives C b is n) (After C b is w) r → R r) → Steps C b R m is ws is vs n
  push-plain R m is ws vs n w e d l k =
      let a : is ++ turn_of w ≡ is = ap (λ (js : List ℕ). is ++ js) e ∙ append-nil is in
      pushes w (sym a) d l (λ r h. k r (subst (λ (js : List ℕ). Then (Gives C b js n) (After C b is w) r) a h))

  -- a frame that takes no turn is taken off
  pub at-plain : (u : Tree) (is js : List ℕ) (ws vs : List Frame) (n : Next) (w v : Frame) → js ≡ is ++ turn_of w → w ≡ v → turn_of v ≡ []
      → Steps C b (After C b is v u) (frame_weight v) is ws is vs n → Steps C b (After C b is w u) (frame_weight w) is ws js vs n
  at-plain u is js ws vs n w v d e f h =
      let a : js ≡ is = d ∙ ap (λ (x : Frame). is ++ turn_of x) e ∙ ap (λ (ks : List ℕ). is ++ ks) f ∙ append-nil is in
      subst (λ (x : Frame). Steps C b (After C b is x u) (frame_weight x) is ws js vs n) (sym e)
      (subst (λ (ks : List ℕ). Steps C b (After C b is v u) (frame_weight v) is ws ks vs n) (sym a) h)

  -- ---- list templates

  -- the terms of a list template can have a fault
  pub finish-fault : (a : Aim) (ts : List Tree) (f : answers.Fault) → IsList ts (fault f) → Finish C a ts (fault f)
  finish-fault aims.List ts f h = h
  finish-fault (aims.Call g) ts f h = stops h

  module _ (is : List ℕ) (ts : Items) (us : List Tree) (e : us ≡ []) (r : Answer Tree) where
    -- all items of a list
    pub row-list : RowGives C b is aims.List ts us r → Inst C b is (seq ts) r
    row-list h = subst (λ (vs : List Tree). RowGives C b is aims.List ts vs r) e h

    -- all items of a call
    pub row-call : (f : List ℕ) → Onto (InstItems C b is ts) us (λ vs. Then (IsList vs) (C.value_of f)) r → Inst C b is (call f ts) r
    row-call f h =
        then-join (InstItems C b is ts) IsList (C.value_of f) r
        (subst (λ (vs : List Tree). Onto (InstItems C b is ts) vs (λ ws. Then (IsList ws) (C.value_of f)) r) e h)

  -- all arguments
  pub arguments-all : (is : List ℕ) (op : HostOp) (hs : Hosts) (us : List Tree) → us ≡ [] → (r : Answer Tree) → ArgumentsGive C b is op hs us r
      → InstHost C b is (apply op hs) r
  arguments-all is op hs us e r h = subst (λ (vs : List Tree). ArgumentsGive C b is op hs vs r) e h

  -- the same row
  pub row-same : (is : List ℕ) (a k : Aim) (ts ss : Items) (us vs : List Tree) (r : Answer Tree) → k ≡ a → ss ≡ ts → vs ≡ us
      → RowGives C b is k ss vs r → RowGives C b is a ts us r
  row-same is a k ts ss us vs r d e f h =
      subst (λ (x : Aim). RowGives C b is x ts us r) d
      (subst (λ (xs : Items). RowGives C b is k xs us r) e (subst (λ (xs : List Tree). RowGives C b is k ss xs r) f h))

  module _ (is : List ℕ) (a : Aim) (ts : Items) (t : Template) (us : List Tree) (n : ℕ) (e : value n ≡ agree (lengths b is 0 t)) (r : Answer Tree) where
    -- the turns of an item under an ellipsis, and what comes behind it
    row-turns : TurnsGive C b is a ts t 0 n us r → RowGives C b is a (many t ts) us r
    row-turns h =
        let d : n - 0 ≡ n = omega arith in
        let R : ℕ → Answer Tree → Type 0 = λ (i : ℕ). Inst C b (is ++ i ∷ []) t in
        onto-both (Finish C a) (EachTurn (lengths b is 0 t) R) (InstItems C b is ts) us r
        (onto-turns (RowGives C b is a ts) R us (lengths b is 0 t) n r e (subst (λ (m : ℕ). Onto (answers.Gather (λ (i : ℕ). answers.Single (R i)) (numbers 0 m)) us (RowGives C b is a ts) r) d h))

    -- none
    pub row-no_turn : n ≡ 0 → RowGives C b is a ts us r → RowGives C b is a (many t ts) us r
    row-no_turn l h = row-turns (onto-no_turn (RowGives C b is a ts) (λ (i : ℕ). Inst C b (is ++ i ∷ []) t) us 0 n r (omega arith) h)

    -- the first
    pub row-first_turn : 0 < n → Then (Inst C b (is ++ 0 ∷ []) t) (λ u. TurnsGive C b is a ts t 1 n (us ++ u ∷ [])) r
        → RowGives C b is a (many t ts) us r
    row-first_turn l h = row-turns (onto-turn (RowGives C b is a ts) (λ (i : ℕ). Inst C b (is ++ i ∷ []) t) us 0 n r l h)

  module _ (is : List ℕ) (a k : Aim) (ts ss : Items) (t : Template) (us vs : List Tree) (i n : ℕ) (r : Answer Tree) (d : k ≡ a) (e : ss ≡ ts) (f : vs ≡ us) where
    -- the last turn was taken
    pub turns-none : n ≤ suc i → RowGives C b is k ss vs r → TurnsGive C b is a ts t (suc i) n us r
    turns-none l h =
        onto-no_turn (RowGives C b is a ts) (λ (j : ℕ). Inst C b (is ++ j ∷ []) t) us (suc i) n r l (row-same is a k ts ss us vs r d e f h)

    -- the next turn
    pub turns-next : (j : ℕ) → j ≡ suc i → j < n → Then (Inst C b (is ++ j ∷ []) t) (λ u. TurnsGive C b is k ss t (suc j) n (vs ++ u ∷ [])) r
        → TurnsGive C b is a ts t (suc i) n us r
    turns-next j p l h =
        let R : Aim → Items → List Tree → Type 0 =
        λ (x : Aim) (xs : Items) (ys : List Tree). Then (Inst C b (is ++ j ∷ []) t) (λ u. TurnsGive C b is x xs t (suc j) n (ys ++ u ∷ [])) r in
        let g : R a ts us = subst (λ (x : Aim). R x ts us) d (subst (λ (xs : Items). R k xs us) e (subst (λ (ys : List Tree). R k ss ys) f h)) in
        subst (λ (m : ℕ). TurnsGive C b is a ts t m n us r) p
        (onto-turn (RowGives C b is a ts) (λ (m : ℕ). Inst C b (is ++ m ∷ []) t) us j n r l g)
