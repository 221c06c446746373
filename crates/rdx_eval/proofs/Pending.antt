-- What is pending in frames: what the lowest make of what the others make of what is done next.
use Rattle.std.proofs.Common.{◌≡◌, ◌<◌, ◌≤◌, ◌+◌, ◌-◌, ℕ, suc, List, [], ◌∷◌, ◌++◌, refl, sym, ◌∙◌, ap, subst, append_assoc, arith}
use Rattle.std.proofs.lemmas.List.{append-nil}
use Rattle.rdx_term.specs.Tree.{Tree}
use Rattle.rdx_term.specs.View.{tree_of}
use Rattle.std.specs.Prelude.{Result, Ok, Err, IsErrAnd}
use Rattle.std.specs.Borrow.{Bor}
use Rattle.rdx_term.specs.declared.name.Name.{Name}
use Rattle.rdx_term.specs.declared.term.Term.{Term}
use Rattle.rdx_lang.specs.Bindings.{Binding}
use Rattle.rdx_eval.specs.Answers.{Answer, value, fault, Fault, Then, stops, goes, Both, Single, Gather}
use Rattle.rdx_eval.specs.Calls.{Calls}
use Rattle.rdx_eval.specs.Instantiation.{EachTurn, agree, numbers}
use Rattle.rdx_eval.specs.Inside.Frames.{Onto, Gives, After, Advances, turn_of, turns_of, Pending, Steps, stays, pushes, Goes, IsPending, IsStep}
use Rattle.rdx_eval.specs.Inside.Stops.{Tells}
use Rattle.rdx_eval.specs.Inside.Weights.{next_weight, frame_weight, frames_weight}
use Rattle.rdx_eval.specs.declared.frames.Frame.{Frame}
use Rattle.rdx_eval.specs.declared.frames.Next.{Next}
use Rattle.rdx_eval.specs.declared.frames.Next.TheVariants.{Make, Host, Row, Arguments, And, Or, Call, Made}
use Rattle.rdx_eval.specs.declared.frames.Stage.{Stage}
use Rattle.rdx_eval.specs.declared.frames.Stage.TheVariants as stages
use Rattle.rdx_eval.specs.declared.stop.Stop.{Stop}
use Rattle.rdx_eval.specs.declared.stop.Stop.TheVariants as stops_of
use Rattle.rdx_eval.proofs.Items.{numbers-next, numbers-end}

-- ---- one after the other

-- less before
pub then-less : {A B : Type 0} (R S : Answer A → Type 0) (F : A → Answer B → Type 0) → ((q : Answer A) → R q → S q) → (r : Answer B) → Then R F r → Then S F r
then-less R S F k r (stops h) = stops (k _ h)
then-less R S F k r (goes h l) = goes (k _ h) l

-- less behind
pub then-behind : {A B : Type 0} (R : Answer A → Type 0) (F G : A → Answer B → Type 0) → ((x : A) (r : Answer B) → F x r → G x r) → (r : Answer B)
    → Then R F r → Then R G r
then-behind R F G k r (stops h) = stops h
then-behind R F G k r (goes h l) = goes h (k _ _ l)

-- two behind one another are one
pub then-join : {A B D : Type 0} (R : Answer A → Type 0) (S : A → Answer B → Type 0) (Q : B → Answer D → Type 0) (r : Answer D)
    → Then R (λ x. Then (S x) Q) r → Then (Then R S) Q r
then-join R S Q r (stops h) = stops (stops h)
then-join R S Q r (goes h (stops k)) = stops (goes h k)
then-join R S Q r (goes h (goes k l)) = goes (goes h k) l

-- ---- lists behind one another

module _ {A B : Type 0} (F : List A → Answer B → Type 0) where
  -- both
  pub onto-both : (X Y : Answer (List A) → Type 0) (ts : List A) (r : Answer B) → Then X (λ us. Onto Y (ts ++ us) F) r → Onto (Both X Y) ts F r
  onto-both X Y ts r (stops h) = stops (stops h)
  onto-both X Y ts r (goes h (stops k)) = stops (goes h (stops k))
  onto-both X Y ts r (goes {x = us} h (goes {x = vs} k l)) =
      goes (goes h (goes k refl)) (subst (λ (zs : List A). F zs r) (append_assoc ts us vs) l)

  -- one term
  pub onto-single : (R : Answer A → Type 0) (ts : List A) (r : Answer B) → Then R (λ v. F (ts ++ v ∷ [])) r → Onto (Single R) ts F r
  onto-single R ts r (stops h) = stops (stops h)
  onto-single R ts r (goes h l) = goes (goes h refl) l

  -- nothing more
  pub onto-none : (ts : List A) (r : Answer B) → F ts r → Onto (λ q. q ≡ value []) ts F r
  onto-none ts r h = goes refl (subst (λ (us : List A). F us r) (sym (append-nil ts)) h)

-- one term and what comes behind it
pub onto-next : {A B : Type 0} (F : List A → Answer B → Type 0) (R : Answer A → Type 0) (Y : Answer (List A) → Type 0) (ts : List A) (r : Answer B)
    → Then R (λ v. Onto Y (ts ++ v ∷ []) F) r → Onto (Both (Single R) Y) ts F r
onto-next F R Y ts r h = onto-both F (Single R) Y ts r (onto-single (λ us. Onto Y us F) R ts r h)

-- ---- turns

module _ {B : Type 0} (F : List Tree → Answer B → Type 0) (R : ℕ → Answer Tree → Type 0) (ts : List Tree) where
  -- all of them
  pub onto-turns : (ns : List ℕ) (n : ℕ) (r : Answer B) → value n ≡ agree ns → Onto (Gather (λ i. Single (R i)) (numbers 0 n)) ts F r → Onto (EachTurn ns R) ts F r
  onto-turns ns n r e (stops h) = stops (goes e h)
  onto-turns ns n r e (goes h l) = goes (goes e h) l

  -- the next one
  pub onto-turn : (i n : ℕ) (r : Answer B) → i < n → Then (R i) (λ v. Onto (Gather (λ j. Single (R j)) (numbers (suc i) (n - suc i))) (ts ++ v ∷ []) F) r
      → Onto (Gather (λ j. Single (R j)) (numbers i (n - i))) ts F r
  onto-turn i n r l h =
      let d : i + 1 ≡ suc i = omega arith in
      let e : numbers i (n - i) ≡ i ∷ numbers (suc i) (n - suc i) =
      subst (λ (k : ℕ). numbers i (n - i) ≡ i ∷ numbers k (n - k)) d (numbers-next i n l) in
      subst (λ (is : List ℕ). Onto (Gather (λ j. Single (R j)) is) ts F r) (sym e)
      (onto-next F (R i) (Gather (λ j. Single (R j)) (numbers (suc i) (n - suc i))) ts r h)

  -- none more
  pub onto-no_turn : (i n : ℕ) (r : Answer B) → n ≤ i → F ts r → Onto (Gather (λ j. Single (R j)) (numbers i (n - i))) ts F r
  onto-no_turn i n r l h =
      subst (λ (is : List ℕ). Onto (Gather (λ j. Single (R j)) is) ts F r) (sym (numbers-end i n l)) (onto-none F ts r h)

-- ---- frames

-- the turns with one frame more
pub turns-last : (ws : List Frame) (w : Frame) → turns_of (ws ++ w ∷ []) ≡ turns_of ws ++ turn_of w
turns-last [] w = append-nil (turn_of w)
turns-last (v ∷ ws) w = ap (λ (is : List ℕ). turn_of v ++ is) (turns-last ws w) ∙ sym (append_assoc (turn_of v) (turns_of ws) (turn_of w))

module _ (C : Calls) (b : Binding) where
  -- of less they make less
  pub pending-less : (is : List ℕ) (ws : List Frame) (R S : Answer Tree → Type 0) → ((q : Answer Tree) → R q → S q) → (r : Answer Tree)
      → Pending C b is ws R r → Pending C b is ws S r
  pending-less is [] R S k r h = k r h
  pending-less is (w ∷ ws) R S k r h =
      then-less (Pending C b (is ++ turn_of w) ws R) (Pending C b (is ++ turn_of w) ws S) (After C b is w) (pending-less (is ++ turn_of w) ws R S k) r h

  -- of a fault they make that
  pub pending-fault : (is : List ℕ) (ws : List Frame) (R : Answer Tree → Type 0) (f : Fault) → R (fault f) → Pending C b is ws R (fault f)
  pending-fault is [] R f h = h
  pending-fault is (w ∷ ws) R f h = stops (pending-fault (is ++ turn_of w) ws R f h)

  -- the one on top, taken off
  pub pending-off : (is : List ℕ) (ws : List Frame) (w : Frame) (R : Answer Tree → Type 0) (r : Answer Tree)
      → Pending C b is (ws ++ w ∷ []) R r → Pending C b is ws (Then R (After C b (is ++ turns_of ws) w)) r
  pending-off is [] w R r h = subst (λ (js : List ℕ). Then R (After C b js w) r) (sym (append-nil is)) h
  pending-off is (v ∷ ws) w R r h =
      let js : List ℕ = is ++ turn_of v in
      let e : js ++ turns_of ws ≡ is ++ (turn_of v ++ turns_of ws) = append_assoc is (turn_of v) (turns_of ws) in
      then-less (Pending C b js (ws ++ w ∷ []) R) (Pending C b js ws (Then R (After C b (is ++ (turn_of v ++ turns_of ws)) w))) (After C b is v)
      (λ q k. subst (λ (ks : List ℕ). Pending C b js ws (Then R (After C b ks w)) q) e (pending-off js ws w R q k)) r h

  -- and put on
  pub pending-on : (is : List ℕ) (ws : List Frame) (w : Frame) (R : Answer Tree → Type 0) (r : Answer Tree)
      → Pending C b is ws (Then R (After C b (is ++ turns_of ws) w)) r → Pending C b is (ws ++ w ∷ []) R r
  pending-on is [] w R r h = subst (λ (js : List ℕ). Then R (After C b js w) r) (append-nil is) h
  pending-on is (v ∷ ws) w R r h =
      let js : List ℕ = is ++ turn_of v in
      let e : js ++ turns_of ws ≡ is ++ (turn_of v ++ turns_of ws) = append_assoc is (turn_of v) (turns_of ws) in
      then-less (Pending C b js ws (Then R (After C b (is ++ (turn_of v ++ turns_of ws)) w))) (Pending C b js (ws ++ w ∷ []) R) (After C b is v)
      (λ q k. pending-on js ws w R q (subst (λ (ks : List ℕ). Pending C b js ws (Then R (After C b ks w)) q) (sym e) k)) r h

  module _ (W : Answer Tree → Type 0) where
    -- at the start
    pub pending-start : (n : Next) → ((r : Answer Tree) → Gives C b [] n r → W r) → IsPending C b W [] [] n
    pending-start n k = record { turned = refl; gives = k }

    -- a step of what may be answered R
    pub pending-step : (R : Answer Tree → Type 0) (m : ℕ) (is js : List ℕ) (ws vs : List Frame) (n : Next) → is ≡ turns_of ws
        → ((r : Answer Tree) → Pending C b [] ws R r → W r) → Steps C b R m is ws js vs n → IsPending C b W js vs n
    pending-step R m is js ws vs n e g (stays d f l k) =
        subst (λ (ks : List ℕ). IsPending C b W ks vs n) (sym d)
        (subst (λ (us : List Frame). IsPending C b W is us n) (sym f)
        (record { turned = e; gives = λ r h. g r (pending-less [] ws (Gives C b is n) R k r h) }))
    pending-step R m is js ws vs n e g (pushes w d f l k) =
        subst (λ (ks : List ℕ). IsPending C b W ks vs n) (sym d)
        (subst (λ (us : List Frame). IsPending C b W (is ++ turn_of w) us n) (sym f)
        (record {
          turned = ap (λ (ks : List ℕ). ks ++ turn_of w) e ∙ sym (turns-last ws w);
          gives = λ r h. g r (pending-less [] ws (Then (Gives C b (is ++ turn_of w) n) (After C b is w)) R k r
              (subst (λ (ks : List ℕ). Pending C b [] ws (Then (Gives C b (is ++ turn_of w) n) (After C b ks w)) r) (sym e)
              (pending-off [] ws w (Gives C b (is ++ turn_of w) n) r h)));
        }))

    -- what was made comes to the frame on top
    pub pending-taken : (is : List ℕ) (us ws : List Frame) (w : Frame) (t : Term) → us ≡ ws ++ w ∷ [] → IsPending C b W is us (Made t)
        → (is ≡ turns_of ws ++ turn_of w) × ((r : Answer Tree) → Pending C b [] ws (After C b (turns_of ws) w (tree_of t)) r → W r)
    pending-taken is us ws w t e p = (
      p.turned ∙ ap turns_of e ∙ turns-last ws w,
      λ r h. p.gives r (subst (λ (vs : List Frame). Pending C b [] vs (λ q. q ≡ value (tree_of t)) r) (sym e)
          (pending-on [] ws w (λ q. q ≡ value (tree_of t)) r
          (pending-less [] ws (After C b (turns_of ws) w (tree_of t)) (Then (λ q. q ≡ value (tree_of t)) (After C b (turns_of ws) w))
          (λ q k. goes refl k) r h))),
    )

-- ---- steps up to a call

module _ (C : Calls) (b : Binding) (V W : Answer Tree → Type 0) (k : (r : Answer Tree) → V r → W r) (m : ℕ) (js : List ℕ) (vs : List Frame) where
  -- a stop
  pub advanced-stop : (s : Stop) → Advances C b V m js vs (Err s) → Tells tree_of W (Err s)
  advanced-stop (stops_of.Fault f) h = k _ h
  advanced-stop stops_of.NoMemory h = tt

  -- the end
  pub advanced-end : (t : Term) → Advances C b V m js vs (Ok (stages.Ends t)) → W (value (tree_of t))
  advanced-end t h = k _ h

  module _ (f : Bor Name) (a : Term) (h : Advances C b V m js vs (Ok (stages.Calls f a))) where
    -- a fault of the call
    pub called-fault : (q : Fault) → C.value_of f.now (tree_of a) (fault q) → W (fault q)
    called-fault q l = k _ (h.2 _ (pending-fault C b [] vs (C.value_of f.now (tree_of a)) q l))

    -- a value
    pub called-value : (t : Term) → C.value_of f.now (tree_of a) (value (tree_of t)) → IsPending C b W js vs (Made t)
    called-value t l = record {
      turned = h.0;
      gives = λ r i. k r (h.2 r (pending-less C b [] vs (λ q. q ≡ value (tree_of t)) (C.value_of f.now (tree_of a))
          (λ q e. subst (C.value_of f.now (tree_of a)) (sym e) l) r i));
    }

  -- what is next behind a call, which has this value
  pub called-next : (s : Stage) (f : Bor Name) (a t : Term) → s ≡ stages.Calls f a → Advances C b V m js vs (Ok s)
      → C.value_of f.now (tree_of a) (value (tree_of t)) → IsPending C b W js vs (Made t)
  called-next s f a t e h l = called-value f a (subst (λ (q : Stage). Advances C b V m js vs (Ok q)) e h) t l

-- an error by `?`, of steps up to a call
pub advances-error : (C : Calls) (b : Binding) (W : Answer Tree → Type 0) (m : ℕ) (js : List ℕ) (vs : List Frame) (r : Result Stage Stop) (s : Stop)
    → IsErrAnd r (λ q. q ≡ s) → Tells tree_of W (Err s) → Advances C b W m js vs r
advances-error C b W m js vs (Ok x) s d h = absurd d
advances-error C b W m js vs (Err q) s d h = subst (λ (p : Stop). Advances C b W m js vs (Err p)) (sym d) (same s h)
  where
    same : (p : Stop) → Tells tree_of W (Err p) → Advances C b W m js vs (Err p)
    same (stops_of.Fault f) k = k
    same stops_of.NoMemory k = tt

-- a stop of one step
pub goes-stop : (C : Calls) (b : Binding) (W R : Answer Tree → Type 0) (m : ℕ) (is js : List ℕ) (ws vs : List Frame) (s : Stop)
    → ((r : Answer Tree) → Pending C b [] ws R r → W r) → Goes C b R m is ws js vs (Err s) → Tells tree_of W (Err s)
goes-stop C b W R m is js ws vs (stops_of.Fault f) k h = k _ (pending-fault C b [] ws R _ h)
goes-stop C b W R m is js ws vs stops_of.NoMemory k h = tt

-- the same in other words
pub pending-moved : (C : Calls) (b : Binding) (W : Answer Tree → Type 0) (is js : List ℕ) (ws vs : List Frame) (n m : Next)
    → js ≡ is → vs ≡ ws → m ≡ n → IsPending C b W is ws n → IsPending C b W js vs m
pending-moved C b W is js ws vs n m d e f h =
    subst (λ (ks : List ℕ). IsPending C b W ks vs m) (sym d)
    (subst (λ (us : List Frame). IsPending C b W is us m) (sym e) (subst (λ (x : Next). IsPending C b W is ws x) (sym f) h))

-- ---- what is still to be done

-- with one frame more
pub frames-last : (ws : List Frame) (w : Frame) → frames_weight (ws ++ w ∷ []) ≡ frames_weight ws + frame_weight w
frames-last [] w = omega arith
frames-last (v ∷ ws) w = let h : frames_weight (ws ++ w ∷ []) ≡ frames_weight ws + frame_weight w = frames-last ws w in omega (arith, h)

-- a step leaves less
pub step-less : (C : Calls) (b : Binding) (R : Answer Tree → Type 0) (m : ℕ) (is js : List ℕ) (ws vs : List Frame) (n : Next) → Steps C b R m is ws js vs n
    → frames_weight vs + next_weight n < frames_weight ws + m
step-less C b R m is js ws vs n (stays d e l k) = let f : frames_weight vs ≡ frames_weight ws = ap frames_weight e in omega (arith, f, l)
step-less C b R m is js ws vs n (pushes w d e l k) =
    let f : frames_weight vs ≡ frames_weight ws + frame_weight w = ap frames_weight e ∙ frames-last ws w in omega (arith, f, l)

-- so does what a frame makes of a term
pub taken-less : (C : Calls) (b : Binding) (R : Answer Tree → Type 0) (is js : List ℕ) (us ws vs : List Frame) (w : Frame) (t : Term) (x n : Next)
    → x ≡ Made t → us ≡ ws ++ w ∷ [] → Steps C b R (frame_weight w) is ws js vs n → frames_weight vs + next_weight n < frames_weight us + next_weight x
taken-less C b R is js us ws vs w t x n d e h =
    let k : next_weight x ≡ 0 = ap next_weight d in
    let f : frames_weight us ≡ frames_weight ws + frame_weight w = ap frames_weight e ∙ frames-last ws w in
    let l : frames_weight vs + next_weight n < frames_weight ws + frame_weight w = step-less C b R (frame_weight w) is js ws vs n h in
    omega (arith, k, f, l)

-- as before, if it was no more than that
pub still-less : {i j m : ℕ} → i < j → j ≤ m → i ≤ m
still-less l k = omega (arith, l, k)

-- a call that is next
pub advanced-call : (C : Calls) (b : Binding) (W : Answer Tree → Type 0) (m : ℕ) (js : List ℕ) (vs : List Frame) (n : Next) (f : Bor Name) (a : Term)
    → n ≡ Call f a → IsPending C b W js vs n → frames_weight vs + next_weight n ≤ m → Advances C b W m js vs (Ok (stages.Calls f a))
advanced-call C b W m js vs n f a e p l =
    let q : IsPending C b W js vs (Call f a) = subst (IsPending C b W js vs) e p in
    let k : next_weight n ≡ 1 = ap next_weight e in
    (q.turned, omega (arith, k, l), q.gives)

-- what is neither a call nor a term that was made
pub is-step : (n : Next) → ((f : Bor Name) (a : Term) → n ≡ Call f a → ⊥) → ((t : Term) → n ≡ Made t → ⊥) → IsStep n
is-step (Make t) h k = tt
is-step (Host x) h k = tt
is-step (Row w) h k = tt
is-step (Arguments op us hs) h k = tt
is-step (And u hs) h k = tt
is-step (Or hs) h k = tt
is-step (Call f a) h k = h f a refl
is-step (Made t) h k = k t refl
