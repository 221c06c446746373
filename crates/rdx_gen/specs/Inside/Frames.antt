-- What is pending while a term is generated: what comes of what is done next, and what each frame makes of a term.
use Rattle.std.specs.Prelude.{◌≡◌, ℕ, List, [], ◌∷◌, ◌++◌, length, map, Option, Result, Ok, Err}
use Rattle.rdx_term.specs.Tree.{Tree}
use Rattle.rdx_term.specs.View.{tree_of}
use Rattle.rdx_lang.specs.Patterns.{Pattern, Items}
use Rattle.rdx_lang.specs.PatternView.{Slot, just, repeated, pattern_of, slot_of, items_of}
use Rattle.rdx_gen.specs.Generation.{with_term}
use Rattle.rdx_gen.specs.Inside.Scopes.{term_here, context_here, items_here, around_here, turns_here, length_here, new_length_here}
use Rattle.rdx_gen.specs.Outcomes.{Outcome, State, made, stopped, deep, large, after, listed, marked, filled}
use Rattle.rdx_gen.specs.Views.{terms_in}
use Rattle.rdx_gen.specs.declared.frames.Frame.{Frame}
use Rattle.rdx_gen.specs.declared.frames.Frame.TheVariants as frames
use Rattle.rdx_gen.specs.declared.frames.Move.{Move}
use Rattle.rdx_gen.specs.declared.frames.Move.TheVariants.{Goes, Waits}
use Rattle.rdx_gen.specs.declared.frames.Next.{Next}
use Rattle.rdx_gen.specs.declared.frames.Next.TheVariants as nexts
use Rattle.rdx_gen.specs.declared.frames.Row.{Row}
use Rattle.rdx_gen.specs.declared.frames.Spot.{Spot}
use Rattle.rdx_gen.specs.declared.frames.Spot.TheVariants as spots
use Rattle.rdx_gen.specs.declared.setting.Scope.{Scope}
use Rattle.rdx_gen.specs.declared.setting.Setting.{Setting}
use Rattle.rdx_gen.specs.declared.stop.Stop.{Stop}
use Rattle.rdx_gen.specs.declared.stop.Stop.TheVariants.{TooDeep, TooLarge, NoMemory}

-- ---- lists

-- the items, then their list with the context at place k
abbrev pub marked_at : Setting → Scope → Items → ℕ → List Tree → State → Outcome Tree
marked_at S c ps k found s = after (items_here S c ps found s) (λ ts s'. marked k ts s')

-- so many turns of a repetition, then the items
abbrev pub turns_then : Setting → Scope → Pattern → ℕ → List Tree → State → (List Tree → State → Outcome Tree) → Outcome Tree
turns_then S c p n found s f = after (turns_here S c p n found s) f

-- more turns of the repetition that has the context, then the items
abbrev pub beside : Setting → Scope → Pattern → Option (List ℕ) → Items → ℕ → List Tree → State → Outcome Tree
beside S c p x ps k found s =
    after (new_length_here S c p x s) (λ m s'. turns_then S c p m found s' (λ behind s''. marked_at S c ps k behind s''))

-- the list of the terms that there are and of what the items give
abbrev pub list_gives : Setting → Scope → Spot → Items → List Tree → State → Outcome Tree
list_gives S c spots.Nowhere ps found s = after (items_here S c ps found s) listed
list_gives S c (spots.Ahead k) ps found s = around_here S c ps k found s
list_gives S c (spots.Here p x) ps found s =
    after (context_here S c (pattern_of p.now) s) (λ C s'. beside S c (pattern_of p.now) x.now ps (length found) (found ++ C ∷ []) s')
list_gives S c (spots.Behind k) ps found s = marked_at S c ps k found s

-- the same of a list of the code, with other terms
abbrev pub row_gives : Setting → Row → List Tree → State → Outcome Tree
row_gives S w found s = list_gives S w.scope w.spot (items_of (map slot_of w.rest.now)) found s

-- an item, then the rest of the list
abbrev pub item_then : Setting → Scope → Spot → Items → Slot → List Tree → State → Outcome Tree
item_then S c k ps (just p) found s = after (term_here S c p s) (λ t s'. list_gives S c k ps (found ++ t ∷ []) s')
item_then S c k ps (repeated p x) found s =
    after (length_here S c p x s) (λ n s'. turns_then S c p n found s' (λ more s''. list_gives S c k ps more s''))

-- an item with the context, then the rest of the list
abbrev pub spot_then : Setting → Scope → Items → Slot → List Tree → State → Outcome Tree
spot_then S c ps (just p) found s = after (context_here S c p s) (λ C s'. marked_at S c ps (length found) (found ++ C ∷ []) s')
spot_then S c ps (repeated p x) found s =
    after (new_length_here S c p x s) (λ n s'. turns_then S c p n found s' (λ before s''.
    after (context_here S c p s'') (λ C s3. beside S c p x ps (length before) (before ++ C ∷ []) s3)))

-- ---- frames

-- what comes of what is done next
abbrev pub gives : Setting → Next → State → Outcome Tree
gives S (nexts.Term c p) s = term_here S c (pattern_of p.now) s
gives S (nexts.Context c p) s = context_here S c (pattern_of p.now) s
gives S (nexts.Row w) s = row_gives S w (terms_in w.found) s
gives S (nexts.Made t) s = made (tree_of t) s

-- what a frame makes of a term
abbrev pub onward : Setting → Frame → Tree → State → Outcome Tree
onward S (frames.Keep x) t s = made t (with_term x.now t s)
onward S (frames.Term c p) C s = after (term_here S c (pattern_of p.now) s) (λ t s'. filled C t s')
onward S (frames.Context c p) C s = after (context_here S c (pattern_of p.now) s) (λ t s'. filled C t s')
onward S (frames.Part C) t s = filled (tree_of C) t s
onward S (frames.Item w) t s = row_gives S w (terms_in w.found ++ t ∷ []) s
onward S (frames.Turn p n w) t s =
    turns_then S w.scope (pattern_of p.now) n (terms_in w.found ++ t ∷ []) s (λ more s'. row_gives S w more s')
onward S (frames.Beside p x w) C s =
    beside S w.scope (pattern_of p.now) x.now (items_of (map slot_of w.rest.now)) (length (terms_in w.found)) (terms_in w.found ++ C ∷ []) s

-- what comes of what a step leads to
abbrev pub leads : Setting → Move → State → Outcome Tree
leads S (Goes n) s = gives S n s
leads S (Waits w n) s = after (gives S n s) (λ t s'. onward S w t s')

-- what frames, from the lowest on, make of what comes of what is done next
abbrev pub pending : Setting → List Frame → Outcome Tree → Outcome Tree
pending S [] o = o
pending S (w ∷ ws) o = after (pending S ws o) (λ t s. onward S w t s)

-- the step leads to this outcome, or it stops so; want of memory is free
abbrev pub Leads : Setting → Outcome Tree → Result Move Stop → State → Type 0
Leads S o (Ok m) s = o ≡ leads S m s
Leads S o (Err TooDeep) s = o ≡ stopped deep s.words
Leads S o (Err TooLarge) s = o ≡ stopped large s.words
Leads S o (Err NoMemory) s = Unit {0}

-- it was not made yet
abbrev pub IsStep : Next → Type 0
IsStep (nexts.Term c p) = Unit {0}
IsStep (nexts.Context c p) = Unit {0}
IsStep (nexts.Row w) = Unit {0}
IsStep (nexts.Made t) = ⊥
