-- How much is still to be done, at most, while a term is generated. A repetition takes fewer than 2 ^ 64 turns, since they are counted so.
use Rattle.std.specs.Prelude.{ℕ, zero, suc, ◌+◌, ◌*◌, List, [], ◌∷◌, map}
use Rattle.rdx_lang.specs.Patterns.{Pattern, wild, of_kind, except, prefix, hole, lit, nt, named, differ, in_hole, hide_hole, closed, seq, Items, nil, one, many, Definition, Language}
use Rattle.rdx_lang.specs.PatternView.{Slot, just, repeated, pattern_of, slot_of, items_of}
use Rattle.rdx_gen.specs.Inside.Scopes.{language_here}
use Rattle.rdx_gen.specs.declared.frames.Frame.{Frame}
use Rattle.rdx_gen.specs.declared.frames.Frame.TheVariants as frames
use Rattle.rdx_gen.specs.declared.frames.Move.{Move}
use Rattle.rdx_gen.specs.declared.frames.Move.TheVariants.{Goes, Waits}
use Rattle.rdx_gen.specs.declared.frames.Next.{Next}
use Rattle.rdx_gen.specs.declared.frames.Next.TheVariants as nexts
use Rattle.rdx_gen.specs.declared.frames.Row.{Row}
use Rattle.rdx_gen.specs.declared.frames.Spot.{Spot}
use Rattle.rdx_gen.specs.declared.frames.Spot.TheVariants as spots
use Rattle.rdx_gen.specs.declared.setting.Scope.{Scope}
use Rattle.rdx_gen.specs.declared.setting.Setting.{Setting}

-- ---- patterns, where a nonterminal weighs W

abbrev mutual
  -- of a pattern
  pub weight : ℕ → Pattern → ℕ
  weight W wild = 1
  weight W (of_kind k) = 1
  weight W (except rs) = 1
  weight W (prefix r) = 1
  weight W hole = 1
  weight W (lit u) = 1
  weight W (nt x) = W
  weight W (named x q) = weight W q + 2
  weight W (differ x q) = weight W q + 1
  weight W (in_hole q r) = weight W q + weight W r + 3
  weight W (hide_hole q) = weight W q + 1
  weight W (closed q) = 1
  weight W (seq ps) = items_weight W ps + 2

  -- of items
  pub items_weight : ℕ → Items → ℕ
  items_weight W nil = 0
  items_weight W (one p ps) = weight W p + items_weight W ps + 2
  items_weight W (many p x ps) = 73786976294838206464 * (weight W p + 1) + items_weight W ps + 2

-- of turns that are counted, of a pattern that weighs this
abbrev pub turns_weight : ℕ → ℕ
turns_weight m = 18446744073709551616 * (m + 1)

-- of alternatives
abbrev pub patterns_weight : ℕ → List Pattern → ℕ
patterns_weight W [] = 0
patterns_weight W (p ∷ ps) = weight W p + patterns_weight W ps

-- of definitions
abbrev pub definitions_weight : ℕ → List Definition → ℕ
definitions_weight W [] = 0
definitions_weight W (d ∷ ds) = patterns_weight W d.1 + definitions_weight W ds

-- what a nonterminal weighs where at most n stand in one another: as much as all alternatives, one level down
unfoldable pub level_weight : Language → ℕ → ℕ
level_weight L zero = 1
level_weight L (suc n) = definitions_weight (level_weight L n) L.nonterminals + 1

-- ---- what is pending

-- what a nonterminal weighs in a scope
abbrev pub weight_in : Setting → Scope → ℕ
weight_in S c = level_weight (language_here S) c.levels

-- of a pattern in a scope
abbrev pub weight_here : Setting → Scope → Pattern → ℕ
weight_here S c p = weight (weight_in S c) p

-- of the rest of a list
abbrev pub list_weight : ℕ → Spot → Items → ℕ
list_weight W spots.Nowhere ps = items_weight W ps + 1
list_weight W (spots.Ahead k) ps = items_weight W ps + 1
list_weight W (spots.Here p x) ps = turns_weight (weight W (pattern_of p.now)) + weight W (pattern_of p.now) + items_weight W ps + 3
list_weight W (spots.Behind k) ps = items_weight W ps + 1

-- of an item and of what comes behind it
abbrev pub slot_weight : ℕ → Slot → ℕ
slot_weight W (just p) = weight W p + 2
slot_weight W (repeated p x) = 73786976294838206464 * (weight W p + 1) + 2

abbrev pub row_weight : Setting → Row → ℕ
row_weight S w = list_weight (weight_in S w.scope) w.spot (items_of (map slot_of w.rest.now))

-- of what is done next
abbrev pub next_weight : Setting → Next → ℕ
next_weight S (nexts.Term c p) = weight_here S c (pattern_of p.now)
next_weight S (nexts.Context c p) = weight_here S c (pattern_of p.now)
next_weight S (nexts.Row w) = row_weight S w
next_weight S (nexts.Made t) = 0

-- of a frame
abbrev pub frame_weight : Setting → Frame → ℕ
frame_weight S (frames.Keep x) = 1
frame_weight S (frames.Term c p) = weight_here S c (pattern_of p.now) + 2
frame_weight S (frames.Context c p) = weight_here S c (pattern_of p.now) + 2
frame_weight S (frames.Part C) = 1
frame_weight S (frames.Item w) = row_weight S w + 1
frame_weight S (frames.Turn p n w) = n * (weight_here S w.scope (pattern_of p.now) + 1) + row_weight S w + 1
frame_weight S (frames.Beside p x w) =
    turns_weight (weight_here S w.scope (pattern_of p.now)) + items_weight (weight_in S w.scope) (items_of (map slot_of w.rest.now)) + 2

-- of frames
abbrev pub frames_weight : Setting → List Frame → ℕ
frames_weight S [] = 0
frames_weight S (w ∷ ws) = frame_weight S w + frames_weight S ws

-- of what a step leads to
abbrev pub move_weight : Setting → Move → ℕ
move_weight S (Goes n) = next_weight S n
move_weight S (Waits w n) = frame_weight S w + next_weight S n
