-- What is left to do. No vector has as many items as `most`, so a task gets fewer answers than that, fewer tasks than that stand on one
-- another, and fewer nodes are made: so each step of the loop leaves less to do, and nothing has to be known of the language.
use Rattle.std.specs.Prelude.{ℕ, zero, suc, ◌+◌, ◌*◌, ◌-◌, List, [], ◌∷◌, length}
use Rattle.rdx_nodes.specs.Doors.{most}
use Rattle.rdx_table.specs.declared.frame.Frame.{Frame}
use Rattle.rdx_table.specs.declared.task.Task.{Task}

-- b, n times multiplied
abbrev pub power : ℕ → ℕ → ℕ
power b zero = 1
power b (suc n) = b * power b n

-- what a step counts at this height: more than all that can be done at greater ones
abbrev pub unit_at : ℕ → ℕ
unit_at i = power (2 * most + 3) (most - i)

-- twice what a frame may still get as answers: each is asked for, and then found
abbrev pub answers_left : Frame → ℕ
answers_left f = 2 * (most - length f.answers.items)

-- one for a look, where nothing is wanted
abbrev pub looks_left : List Task → ℕ
looks_left [] = 1
looks_left (x ∷ xs) = 0

-- what is left to do at the top
abbrev pub top_left : Frame → ℕ
top_left f = answers_left f + looks_left f.wanted.items

-- at a frame below, which waits for the answer that the one above it is to find
abbrev pub waiting_left : Frame → ℕ
waiting_left f = answers_left f - 1

-- at these frames, the first of which is at height i
abbrev pub below_left : ℕ → List Frame → ℕ
below_left i [] = 0
below_left i (f ∷ fs) = waiting_left f * unit_at i + below_left (suc i) fs

-- at all frames
abbrev pub all_left : List Frame → Frame → ℕ
all_left fs f = below_left 0 fs + top_left f * unit_at (length fs)
