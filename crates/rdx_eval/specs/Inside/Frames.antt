-- What is pending while a template is made. What is done next may be answered something, and each frame makes of a value what it makes; a fault
-- is the answer of all.
use Rattle.std.specs.Prelude.{◌≡◌, ◌+◌, ◌<◌, ◌-◌, ℕ, suc, List, [], ◌∷◌, ◌++◌, flat_map, not, Result, Ok, Err}
use Rattle.rdx_delta.specs.Delta.{delta}
use Rattle.rdx_term.specs.Tree.{Tree}
use Rattle.rdx_term.specs.View.{tree_of}
use Rattle.rdx_lang.specs.Bindings.{Binding}
use Rattle.rdx_lang.specs.Templates.{Template, Items, nil, one, many, Hosts}
use Rattle.rdx_lang.specs.TemplateView.{template_of, host_of}
use Rattle.rdx_lang.specs.declared.operation.HostOp.{HostOp}
use Rattle.rdx_eval.specs.Answers.{Answer, value, fault, Then, Gather, Single}
use Rattle.rdx_eval.specs.Calls.{Calls}
use Rattle.rdx_eval.specs.Inside.Parts.{items_in, hosts_in}
use Rattle.rdx_eval.specs.Inside.Weights.{next_weight, frame_weight, frames_weight}
use Rattle.rdx_eval.specs.Instantiation.{Inst, InstItems, InstHost, InstHosts, FirstFalse, FirstTrue, Either, is_false, numbers, replied}
use Rattle.rdx_eval.specs.Making.{IsList, IsFilled}
use Rattle.rdx_eval.specs.Views.{terms_in, fault_of}
use Rattle.rdx_eval.specs.declared.frames.Aim.{Aim}
use Rattle.rdx_eval.specs.declared.frames.Aim.TheVariants as aims
use Rattle.rdx_eval.specs.declared.frames.Frame.{Frame}
use Rattle.rdx_eval.specs.declared.frames.Frame.TheVariants as frames
use Rattle.rdx_eval.specs.declared.frames.Head.{Head}
use Rattle.rdx_eval.specs.declared.frames.Head.TheVariants as heads
use Rattle.rdx_eval.specs.declared.frames.Next.{Next}
use Rattle.rdx_eval.specs.declared.frames.Next.TheVariants as nexts
use Rattle.rdx_eval.specs.declared.frames.Stage.{Stage}
use Rattle.rdx_eval.specs.declared.frames.Stage.TheVariants as stages
use Rattle.rdx_eval.specs.declared.stop.Stop.{Stop}
use Rattle.rdx_eval.specs.declared.stop.Stop.TheVariants.{Fault, NoMemory}

-- what comes of these terms and, behind them, of what X gives
abbrev pub Onto : {A B : Type 0} → (Answer (List A) → Type 0) → List A → (List A → Answer B → Type 0) → Answer B → Type 0
Onto X ts F = Then X (λ us. F (ts ++ us))

-- what is made of the terms of a list template
abbrev pub Finish : Calls → Aim → List Tree → Answer Tree → Type 0
Finish C aims.List ts = IsList ts
Finish C (aims.Call f) ts = Then (IsList ts) (C.value_of f.now)

-- what is made of these terms and, behind them, of items
abbrev pub RowGives : Calls → Binding → List ℕ → Aim → Items → List Tree → Answer Tree → Type 0
RowGives C b is a ts us = Onto (InstItems C b is ts) us (Finish C a)

-- the same of turns from the i-th on, before the items
abbrev pub TurnsGive : Calls → Binding → List ℕ → Aim → Items → Template → ℕ → ℕ → List Tree → Answer Tree → Type 0
TurnsGive C b is a ts t i n us = Onto (Gather (λ j. Single (Inst C b (is ++ j ∷ []) t)) (numbers i (n - i))) us (RowGives C b is a ts)

-- what an operation answers to these terms and, behind them, to what host expressions make
abbrev pub ArgumentsGive : Calls → Binding → List ℕ → HostOp → Hosts → List Tree → Answer Tree → Type 0
ArgumentsGive C b is op hs us = Onto (InstHosts C b is hs) us (λ ts r. r ≡ replied op ts (delta op ts))

-- what what is done next may be answered
abbrev pub Gives : Calls → Binding → List ℕ → Next → Answer Tree → Type 0
Gives C b is (nexts.Make t) = Inst C b is (template_of t.now)
Gives C b is (nexts.Host h) = InstHost C b is (host_of h.now)
Gives C b is (nexts.Row w) = RowGives C b is w.aim (items_in w.rest.now) (terms_in w.found)
Gives C b is (nexts.Arguments op us hs) = ArgumentsGive C b is op (hosts_in hs.now) (terms_in us)
Gives C b is (nexts.And u hs) = FirstFalse C b is (tree_of u) (hosts_in hs.now)
Gives C b is (nexts.Or hs) = FirstTrue C b is (hosts_in hs.now)
Gives C b is (nexts.Call f a) = C.value_of f.now (tree_of a)
Gives C b is (nexts.Made t) = λ r. r ≡ value (tree_of t)

-- what a frame makes of a term
abbrev pub After : Calls → Binding → List ℕ → Frame → Tree → Answer Tree → Type 0
After C b is (frames.Context p) u = Then (Inst C b is (template_of p.now)) (λ v. IsFilled u v)
After C b is (frames.Part c) u = IsFilled (tree_of c) u
After C b is (frames.Item w) u = RowGives C b is w.aim (items_in w.rest.now) (terms_in w.found ++ u ∷ [])
After C b is (frames.Turn k) u =
    TurnsGive C b is k.row.aim (items_in k.row.rest.now) (template_of k.template.now) (suc k.turn) k.times (terms_in k.row.found ++ u ∷ [])
After C b is (frames.Argument op us hs) u = ArgumentsGive C b is op (hosts_in hs.now) (terms_in us ++ u ∷ [])
After C b is (frames.And hs) u = Either (is_false u) u (FirstFalse C b is u (hosts_in hs.now))
After C b is (frames.Or hs) u = Either (not (is_false u)) u (FirstTrue C b is (hosts_in hs.now))

-- the turn that a frame is taking
abbrev pub turn_of : Frame → List ℕ
turn_of (frames.Context p) = []
turn_of (frames.Part c) = []
turn_of (frames.Item w) = []
turn_of (frames.Turn k) = k.turn ∷ []
turn_of (frames.Argument op us hs) = []
turn_of (frames.And hs) = []
turn_of (frames.Or hs) = []

-- the turns that frames are taking, from the lowest on
abbrev pub turns_of : List Frame → List ℕ
turns_of ws = flat_map turn_of ws

-- what frames, from the lowest on, make of what R answers; the lowest stands in these turns
abbrev pub Pending : Calls → Binding → List ℕ → List Frame → (Answer Tree → Type 0) → Answer Tree → Type 0
Pending C b is [] R = R
Pending C b is (w ∷ ws) R = Then (Pending C b (is ++ turn_of w) ws R) (After C b is w)

-- One step in the turns is, with the frames ws, of what may be answered R and weighs m: what is next gives only what R allows, with these frames, or
-- with one more that takes what it gives; and it weighs less, with that frame.
pub data Steps (C : Calls) (b : Binding) (R : Answer Tree → Type 0) (m : ℕ) (is : List ℕ) (ws : List Frame) (js : List ℕ) (vs : List Frame) (n : Next) : Type 0 where
  stays : js ≡ is → vs ≡ ws → next_weight n < m → ((r : Answer Tree) → Gives C b is n r → R r) → Steps C b R m is ws js vs n
  pushes : (w : Frame) → js ≡ is ++ turn_of w → vs ≡ ws ++ w ∷ [] → frame_weight w + next_weight n < m
      → ((r : Answer Tree) → Then (Gives C b (is ++ turn_of w) n) (After C b is w) r → R r) → Steps C b R m is ws js vs n

-- a step, or a fault that R allows
abbrev pub Goes : Calls → Binding → (Answer Tree → Type 0) → ℕ → List ℕ → List Frame → List ℕ → List Frame → Result Next Stop → Type 0
Goes C b R m is ws js vs (Ok n) = Steps C b R m is ws js vs n
Goes C b R m is ws js vs (Err (Fault f)) = R (fault (fault_of f.value))
Goes C b R m is ws js vs (Err NoMemory) = Unit {0}

-- what is pending gives only what R allows
pub record IsPending (C : Calls) (b : Binding) (R : Answer Tree → Type 0) (is : List ℕ) (ws : List Frame) (n : Next) : Type 0 where
  pub turned : is ≡ turns_of ws
  pub gives : (r : Answer Tree) → Pending C b [] ws (Gives C b is n) r → R r

-- the items of which these are the first and those behind it
abbrev pub items_at : Head → Items
items_at heads.End = nil
items_at (heads.One t ts) = one (template_of t.now) (items_in ts.now)
items_at (heads.Many t ts) = many (template_of t.now) (items_in ts.now)

-- All steps up to a call, or to the end, of what W allows and weighs m: behind the call, what is pending gives only what W allows, and weighs less.
abbrev pub Advances : Calls → Binding → (Answer Tree → Type 0) → ℕ → List ℕ → List Frame → Result Stage Stop → Type 0
Advances C b W m js vs (Ok (stages.Calls f a)) =
    (js ≡ turns_of vs) × (frames_weight vs < m) × ((r : Answer Tree) → Pending C b [] vs (C.value_of f.now (tree_of a)) r → W r)
Advances C b W m js vs (Ok (stages.Ends t)) = W (value (tree_of t))
Advances C b W m js vs (Err (Fault f)) = W (fault (fault_of f.value))
Advances C b W m js vs (Err NoMemory) = Unit {0}

-- it is neither a call nor a term that was made
abbrev pub IsStep : Next → Type 0
IsStep (nexts.Make t) = Unit {0}
IsStep (nexts.Host h) = Unit {0}
IsStep (nexts.Row w) = Unit {0}
IsStep (nexts.Arguments op us hs) = Unit {0}
IsStep (nexts.And u hs) = Unit {0}
IsStep (nexts.Or hs) = Unit {0}
IsStep (nexts.Call f a) = ⊥
IsStep (nexts.Made t) = ⊥
