-- What is pending: frames put on and taken off, one at a time.
use Rattle.std.proofs.Common.{◌≡◌, ◌<◌, ◌+◌, List, [], ◌∷◌, ◌++◌, refl, sym, ◌∙◌, ap, subst, arith}
use Rattle.std.specs.Prelude.{Result, Ok, Err, IsErrAnd}
use Rattle.rdx_term.specs.Tree.{Tree}
use Rattle.rdx_term.specs.View.{tree_of}
use Rattle.rdx_term.specs.declared.term.Term.{Term}
use Rattle.rdx_gen.specs.Inside.Frames.{gives, onward, pending, Leads, IsStep}
use Rattle.rdx_gen.specs.Inside.Weights.{frame_weight, frames_weight, next_weight, move_weight}
use Rattle.rdx_gen.specs.Outcomes.{Outcome, State, made, stopped, after, Limit}
use Rattle.rdx_gen.specs.Views.{Says}
use Rattle.rdx_gen.specs.declared.frames.Frame.{Frame}
use Rattle.rdx_gen.specs.declared.frames.Move.{Move}
use Rattle.rdx_gen.specs.declared.frames.Next.{Next}
use Rattle.rdx_gen.specs.declared.frames.Next.TheVariants as nexts
use Rattle.rdx_gen.specs.declared.setting.Setting.{Setting}
use Rattle.rdx_gen.specs.declared.stop.Stop.{Stop}
use Rattle.rdx_gen.specs.declared.stop.Stop.TheVariants.{TooDeep, TooLarge, NoMemory}
use Rattle.rand_pcg.specs.Lcg.{Lcg}

-- one frame more on top
pub pending_last : (S : Setting) (ws : List Frame) (w : Frame) (o : Outcome Tree) → pending S (ws ++ w ∷ []) o ≡ pending S ws (after o (λ t s. onward S w t s))
pending_last S [] w o = refl
pending_last S (v ∷ ws) w o = ap (λ (z : Outcome Tree). after z (λ t s. onward S v t s)) (pending_last S ws w o)

-- a limit is the limit of all
pub pending_stopped : (S : Setting) (ws : List Frame) (l : Limit) (w : Lcg) → pending S ws (stopped l w) ≡ stopped l w
pending_stopped S [] l w = refl
pending_stopped S (v ∷ ws) l w = ap (λ (z : Outcome Tree). after z (λ t s. onward S v t s)) (pending_stopped S ws l w)

-- with one frame more
pub frames_last : (S : Setting) (ws : List Frame) (w : Frame) → frames_weight S (ws ++ w ∷ []) ≡ frames_weight S ws + frame_weight S w
frames_last S [] w = omega arith
frames_last S (v ∷ ws) w = let h : frames_weight S (ws ++ w ∷ []) ≡ frames_weight S ws + frame_weight S w = frames_last S ws w in omega (arith, h)

-- a stop of a step is that of all
pub stop_of_all : (S : Setting) (ws : List Frame) (o whole : Outcome Tree) (e : Stop) (s : State) → pending S ws o ≡ whole → Leads S o (Err e) s
    → Says tree_of whole (Err e) s
stop_of_all S ws o whole TooDeep s h k = sym h ∙ ap (pending S ws) k ∙ pending_stopped S ws _ s.words
stop_of_all S ws o whole TooLarge s h k = sym h ∙ ap (pending S ws) k ∙ pending_stopped S ws _ s.words
stop_of_all S ws o whole NoMemory s h k = tt

-- the same by `?`
pub stop_by : (S : Setting) (ws : List Frame) (o whole : Outcome Tree) (r : Result Term Stop) (e : Stop) (s : State) → pending S ws o ≡ whole
    → IsErrAnd r (λ q. q ≡ e) → Leads S o (Err e) s → Says tree_of whole r s
stop_by S ws o whole (Ok t) e s h d k = absurd d
stop_by S ws o whole (Err q) e s h d k =
    subst (λ (z : Stop). Says tree_of whole (Err z) s) (sym d) (stop_of_all S ws o whole e s h k)

-- what was made comes to the frame on top
pub taken_off : (S : Setting) (us ws : List Frame) (w : Frame) (n : Next) (t : Term) (s : State) → n ≡ nexts.Made t → us ≡ ws ++ w ∷ []
    → pending S us (gives S n s) ≡ pending S ws (onward S w (tree_of t) s)
taken_off S us ws w n t s d e =
    ap (λ (z : Next). pending S us (gives S z s)) d ∙ ap (λ (z : List Frame). pending S z (made (tree_of t) s)) e ∙ pending_last S ws w (made (tree_of t) s)

-- what weighs less
pub taken_less : (S : Setting) (us ws vs : List Frame) (w : Frame) (n x : Next) (m : Move) → us ≡ ws ++ w ∷ []
    → move_weight S m < frame_weight S w → frames_weight S vs + next_weight S x ≡ frames_weight S ws + move_weight S m
    → frames_weight S vs + next_weight S x < frames_weight S us + next_weight S n
taken_less S us ws vs w n x m e l k =
    let f : frames_weight S us ≡ frames_weight S ws + frame_weight S w = ap (frames_weight S) e ∙ frames_last S ws w in
    omega (arith, f, l, k)

-- what is no term that was made
pub is_step : (n : Next) → ((t : Term) → n ≡ nexts.Made t → ⊥) → IsStep n
is_step (nexts.Term c p) k = tt
is_step (nexts.Context c p) k = tt
is_step (nexts.Row w) k = tt
is_step (nexts.Made t) k = k t refl
