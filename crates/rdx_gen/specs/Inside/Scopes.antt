-- What generation goes by, as plain data.
use Rattle.std.specs.Prelude.{ℕ, List, [], Option, Some, None, map, slice_index_or}
use Rattle.std.specs.Borrow.{Bor}
use Rattle.rdx_term.specs.Tree.{Tree}
use Rattle.rdx_lang.specs.Checked.{language_in}
use Rattle.rdx_lang.specs.Lookup.{alternatives_of}
use Rattle.rdx_lang.specs.Patterns.{Pattern, wild, Items, Language}
use Rattle.rdx_lang.specs.declared.pattern.Ref.{Ref}
use Rattle.rdx_gen.specs.Generation as model
use Rattle.rdx_gen.specs.Generation.{Inner, choices, inner_at, is_hollow, no_notes}
use Rattle.rdx_gen.specs.Heights.{Known, term_height, context_height}
use Rattle.rdx_gen.specs.Outcomes.{Outcome, State, after, made, one_of}
use Rattle.rdx_gen.specs.declared.setting.Notes.{Notes}
use Rattle.rdx_gen.specs.declared.setting.Scope.{Scope}
use Rattle.rdx_gen.specs.declared.setting.Setting.{Setting}

-- the language
abbrev pub language_here : Setting → Language
language_here S = language_in S.nonterminals.language.now

-- what is known of the heights in it
abbrev pub known_here : Setting → Known
known_here S = record { definitions = (language_here S).nonterminals; heights = S.heights.items }

-- what there is to know of it
abbrev pub setting_in : Setting → model.Setting
setting_in S = record { known = known_here S; unmentioned = S.unmentioned.items }

-- what nonterminals give in a scope
abbrev pub inner_in : Setting → Scope → Inner
inner_in S c = inner_at (language_here S) (setting_in S) c.levels

-- the notes
abbrev pub notes_here : Notes → model.Notes
notes_here o = record { again = map (λ r. r.now) o.again.names.items; hollow = map (λ r. r.now) o.hollow.names.items }

-- those that there are, or none
abbrev pub notes_in : Option (Bor Notes) → model.Notes
notes_in None = no_notes
notes_in (Some o) = notes_here o.now

-- what patterns and items give in a scope
abbrev pub term_here : Setting → Scope → Pattern → State → Outcome Tree
term_here S c p s = model.term (setting_in S) (inner_in S c) (notes_in c.notes) c.size p s

abbrev pub context_here : Setting → Scope → Pattern → State → Outcome Tree
context_here S c p s = model.context (setting_in S) (inner_in S c) (notes_in c.notes) c.size p s

abbrev pub items_here : Setting → Scope → Items → List Tree → State → Outcome (List Tree)
items_here S c ps found s = model.items (setting_in S) (inner_in S c) (notes_in c.notes) c.size ps found s

abbrev pub around_here : Setting → Scope → Items → ℕ → List Tree → State → Outcome Tree
around_here S c ps k found s = model.around (setting_in S) (inner_in S c) (notes_in c.notes) c.size ps k found s

abbrev pub turns_here : Setting → Scope → Pattern → ℕ → List Tree → State → Outcome (List Tree)
turns_here S c p k found s = model.turns (λ z. term_here S c p z) k found s

-- the length of a repetition, and a new one
abbrev pub length_here : Setting → Scope → Pattern → Option (List ℕ) → State → Outcome ℕ
length_here S c p x s = model.length_of (notes_in c.notes) (term_height (known_here S) p) x c.size s

abbrev pub new_length_here : Setting → Scope → Pattern → Option (List ℕ) → State → Outcome ℕ
new_length_here S c p x s = model.new_length (is_hollow (notes_in c.notes) (term_height (known_here S) p) x) c.size s

-- one of these patterns, which have these heights
abbrev pub one_among : ℕ → List Pattern → List (Option ℕ) → State → Outcome Pattern
one_among size ps hs s = after (one_of (choices size hs) s) (λ k s'. made (slice_index_or ps k wild) s')

-- an alternative of a nonterminal, for a term and for a context
abbrev pub term_alternative : Setting → Scope → Ref → State → Outcome Pattern
term_alternative S c x s =
    one_among c.size (alternatives_of (language_here S) x) (map (term_height (known_here S)) (alternatives_of (language_here S) x)) s

abbrev pub context_alternative : Setting → Scope → Ref → State → Outcome Pattern
context_alternative S c x s =
    one_among c.size (alternatives_of (language_here S) x) (map (context_height (known_here S)) (alternatives_of (language_here S) x)) s

-- the alternatives of the nonterminal at a place, and one of them
abbrev pub alternatives_there : Setting → ℕ → List Pattern
alternatives_there S i = slice_index_or (map (λ d. d.1) (language_here S).nonterminals) i []

abbrev pub pattern_there : Setting → ℕ → ℕ → Pattern
pattern_there S i k = slice_index_or (alternatives_there S i) k wild
