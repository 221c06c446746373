-- What is generated of a pattern, with a size and a state: a term, or a context.
use Rattle.std.specs.Prelude.{ℕ, zero, suc, ◌+◌, ◌-◌, min, ◌==◌, ◌||◌, not, Bool, true, false, pos, ◌-ℤ◌, List, [], ◌∷◌, ◌++◌, map, length, codes, slice_index_or, Option, Some, None, if◌then◌else◌}
use Rattle.rdx_term.specs.Tree.{Tree, integer, truth, text, symbol}
use Rattle.rdx_term.specs.Tree.{hole as the_hole}
use Rattle.rdx_lang.specs.Lookup.{alternatives_of}
use Rattle.rdx_lang.specs.Patterns.{Pattern, wild, of_kind, except, prefix, hole, lit, nt, named, differ, in_hole, hide_hole, closed, seq, Items, nil, one, many, Language}
use Rattle.rdx_lang.specs.Rules.{is_one_of}
use Rattle.rdx_lang.specs.declared.pattern.Kind.{Kind}
use Rattle.rdx_lang.specs.declared.pattern.Kind.TheVariants.{Any, Number, Natural, Integer, Real, Text, Boolean, Variable, Unmentioned}
use Rattle.rdx_lang.specs.declared.pattern.Ref.{Ref}
use Rattle.rdx_gen.specs.Heights.{Known, known_in, term_height, context_height, place_heights, least}
use Rattle.rdx_gen.specs.Literals.{language_literals}
use Rattle.rdx_gen.specs.Outcomes.{State, Outcome, made, nothing, after, picked, one_of, found_for, listed, marked, filled}
use Rattle.rdx_gen.specs.Variables.{first_five}

-- ---- atoms

-- an integer from -10 to 10
abbrev pub any_integer : State → Outcome Tree
any_integer s = after (picked 21 s) (λ k s'. made (integer (pos k -ℤ pos 10)) s')

-- one from 0 to 10
abbrev pub any_natural : State → Outcome Tree
any_natural s = after (picked 11 s) (λ k s'. made (integer (pos k)) s')

-- a truth value
abbrev pub any_truth : State → Outcome Tree
any_truth s = after (picked 2 s) (λ k s'. made (truth (k == 1)) s')

-- one of the strings "", "a" and "ab"
abbrev pub any_string : State → Outcome Tree
any_string s = after (picked 3 s) (λ k s'. made (text (slice_index_or ([] ∷ codes "a" ∷ codes "ab" ∷ []) k [])) s')

-- one of five symbols
abbrev pub any_symbol : List (List ℕ) → State → Outcome Tree
any_symbol xs s = after (picked 5 s) (λ k s'. made (symbol (slice_index_or xs k (codes "a"))) s')

-- a term of a kind, by its number: an integer, a symbol, a truth value or a string
abbrev pub of_number : ℕ → State → Outcome Tree
of_number k s = if k == 0 then any_integer s else if k == 1 then any_symbol (first_five [] []) s else if k == 2 then any_truth s else any_string s

-- an atom of one of four kinds
abbrev pub any_atom : State → Outcome Tree
any_atom s = after (picked 4 s) of_number

-- a term of the kind; the last is given the symbols that the language does not have as literals
abbrev pub any_of_kind : List (List ℕ) → Kind → State → Outcome Tree
any_of_kind us Any s = any_atom s
any_of_kind us Number s = any_integer s
any_of_kind us Natural s = any_natural s
any_of_kind us Integer s = any_integer s
any_of_kind us Real s = any_integer s
any_of_kind us Text s = any_string s
any_of_kind us Boolean s = any_truth s
any_of_kind us Variable s = any_symbol (first_five [] []) s
any_of_kind us Unmentioned s = any_symbol us s

-- ---- choices

-- a pattern of this height is one to choose: at size 0 where the least one is as high, else where it has a height
abbrev pub is_choice : ℕ → Option ℕ → Option ℕ → Bool
is_choice size lowest None = false
is_choice size None (Some h) = false
is_choice size (Some m) (Some h) = not (size == 0) || h == m

-- the places, from i on, of those to choose
abbrev pub choices_from : ℕ → Option ℕ → ℕ → List (Option ℕ) → List ℕ
choices_from size lowest i [] = []
choices_from size lowest i (h ∷ hs) = if is_choice size lowest h then i ∷ choices_from size lowest (i + 1) hs else choices_from size lowest (i + 1) hs

-- the places of those to choose among patterns of these heights
abbrev pub choices : ℕ → List (Option ℕ) → List ℕ
choices size hs = choices_from size (least hs) 0 hs

-- ---- names and lengths

-- of a pattern, the names and length names that stand in it more than once, and its length names that stand over a pattern without a height
pub record Notes : Type 0 where
  pub again : List (List ℕ)
  pub hollow : List (List ℕ)

-- of an alternative: no name stands in it twice
abbrev pub no_notes : Notes
no_notes = record { again = []; hollow = [] }

-- x has this term from here on
abbrev pub with_term : List ℕ → Tree → State → State
with_term x t s = record { words = s.words; terms = s.terms ++ (x, t) ∷ []; lengths = s.lengths }

-- x has this length
abbrev pub with_length : List ℕ → ℕ → State → State
with_length x k s = record { words = s.words; terms = s.terms; lengths = s.lengths ++ (x, k) ∷ [] }

-- the term that a name has, or else the one that comes of its pattern, which it has from there on
abbrev pub had_or_made : Option Tree → List ℕ → Outcome Tree → State → Outcome Tree
had_or_made (Some t) x r s = made t s
had_or_made None x r s = after r (λ t s'. made t (with_term x t s'))

-- the same for a name that comes again; of one that does not nothing is kept
abbrev pub for_name : Bool → List ℕ → Outcome Tree → State → Outcome Tree
for_name true x r s = had_or_made (found_for x s.terms) x r s
for_name false x r s = r

-- a new length of a repetition: none where its pattern has no height
abbrev pub new_length : Bool → ℕ → State → Outcome ℕ
new_length true size s = made 0 s
new_length false size s = picked (min size 3 + 1) s

-- the length that a length name has, or else a new one, which it has from there on
abbrev pub had_or_new : Option ℕ → List ℕ → Bool → ℕ → State → Outcome ℕ
had_or_new (Some k) x empty size s = made k s
had_or_new None x empty size s = after (new_length empty size s) (λ k s'. made k (with_length x k s'))

-- there is no such height
abbrev pub lacks : Option ℕ → Bool
lacks None = true
lacks (Some n) = false

-- whether a repetition of a pattern of this height has no items
abbrev pub is_hollow : Notes → Option ℕ → Option (List ℕ) → Bool
is_hollow o h None = lacks h
is_hollow o h (Some x) = lacks h || is_one_of o.hollow x

-- the length of a repetition of a pattern of this height
abbrev pub length_of : Notes → Option ℕ → Option (List ℕ) → ℕ → State → Outcome ℕ
length_of o h None size s = new_length (is_hollow o h None) size s
length_of o h (Some x) size s =
    if is_one_of o.again x then had_or_new (found_for x s.lengths) x (is_hollow o h (Some x)) size s else new_length (is_hollow o h (Some x)) size s

-- n terms by G, behind those that there are
abbrev pub turns : (State → Outcome Tree) → ℕ → List Tree → State → Outcome (List Tree)
turns G zero found s = made found s
turns G (suc n) found s = after (G s) (λ t s'. turns G n (found ++ t ∷ []) s')

-- ---- patterns

-- what nonterminals give, as terms and as contexts, with a size
pub record Inner : Type 0 where
  pub as_term : Ref → ℕ → State → Outcome Tree
  pub as_context : Ref → ℕ → State → Outcome Tree

-- what there is to know: the heights of nonterminals, and the symbols that the language does not have as literals
pub record Setting : Type 0 where
  pub known : Known
  pub unmentioned : List (List ℕ)

abbrev mutual
  -- a term; a closed pattern has no height and gives none, and one with a mismatch name, which breaks a rule, is as without it
  pub term : Setting → Inner → Notes → ℕ → Pattern → State → Outcome Tree
  term S N o size wild s = any_atom s
  term S N o size (of_kind k) s = any_of_kind S.unmentioned k s
  term S N o size (except rs) s = any_symbol (first_five [] rs) s
  term S N o size (prefix r) s = any_symbol (first_five r []) s
  term S N o size hole s = made the_hole s
  term S N o size (lit u) s = made u s
  term S N o size (nt x) s = N.as_term x size s
  term S N o size (named x q) s = for_name (is_one_of o.again x) x (term S N o size q s) s
  term S N o size (differ x q) s = term S N o size q s
  term S N o size (in_hole q r) s = after (context S N o size q s) (λ C s'. after (term S N o size r s') (λ t s''. filled C t s''))
  term S N o size (hide_hole q) s = term S N o size q s
  term S N o size (closed q) s = nothing
  term S N o size (seq ps) s = after (items S N o size ps [] s) listed

  -- the items of a list, from left to right, behind those that there are
  pub items : Setting → Inner → Notes → ℕ → Items → List Tree → State → Outcome (List Tree)
  items S N o size nil found s = made found s
  items S N o size (one p ps) found s = after (term S N o size p s) (λ t s'. items S N o size ps (found ++ t ∷ []) s')
  items S N o size (many p x ps) found s =
      after (length_of o (term_height S.known p) x size s)
      (λ k s'. after (turns (λ z. term S N o size p z) k found s') (λ more s''. items S N o size ps more s''))

  -- a context; a name has no second place there
  pub context : Setting → Inner → Notes → ℕ → Pattern → State → Outcome Tree
  context S N o size wild s = nothing
  context S N o size (of_kind k) s = nothing
  context S N o size (except rs) s = nothing
  context S N o size (prefix r) s = nothing
  context S N o size hole s = made the_hole s
  context S N o size (lit u) s = nothing
  context S N o size (nt x) s = N.as_context x size s
  context S N o size (named x q) s = context S N o size q s
  context S N o size (differ x q) s = context S N o size q s
  context S N o size (in_hole q r) s = after (context S N o size q s) (λ C s'. after (context S N o size r s') (λ D s''. filled C D s''))
  context S N o size (hide_hole q) s = nothing
  context S N o size (closed q) s = nothing
  context S N o size (seq ps) s = after (one_of (choices size (place_heights S.known (Some 0) ps)) s) (λ k s'. around S N o size ps k [] s')

  -- the list with a context from the item pattern at place k, behind the items that there are
  pub around : Setting → Inner → Notes → ℕ → Items → ℕ → List Tree → State → Outcome Tree
  around S N o size nil k found s = nothing
  around S N o size (one p ps) zero found s =
      after (context S N o size p s) (λ C s'. after (items S N o size ps (found ++ C ∷ []) s') (λ ts s''. marked (length found) ts s''))
  around S N o size (one p ps) (suc k) found s = after (term S N o size p s) (λ t s'. around S N o size ps k (found ++ t ∷ []) s')
  around S N o size (many p x ps) zero found s =
      after (new_length (is_hollow o (term_height S.known p) x) size s) (λ k s'.
      after (turns (λ z. term S N o size p z) k found s') (λ before s''.
      after (context S N o size p s'') (λ C s3.
      after (new_length (is_hollow o (term_height S.known p) x) size s3) (λ m s4.
      after (turns (λ z. term S N o size p z) m (before ++ C ∷ []) s4) (λ behind s5.
      after (items S N o size ps behind s5) (λ ts s6. marked (length before) ts s6))))))
  around S N o size (many p x ps) (suc k) found s =
      after (length_of o (term_height S.known p) x size s)
      (λ m s'. after (turns (λ z. term S N o size p z) m found s') (λ more s''. around S N o size ps k more s''))

-- ---- nonterminals

-- an alternative of these that has the least height, or any height, goes on by G
abbrev pub by_alternative : List Pattern → List (Option ℕ) → ℕ → (Pattern → State → Outcome Tree) → State → Outcome Tree
by_alternative ps hs size G s = after (one_of (choices size hs) s) (λ k s'. G (slice_index_or ps k wild) s')

-- What nonterminals give where at most n stand in one another: one of the alternatives with a height, at size 0 with the least one, at a size of
-- one less.
unfoldable pub inner_at : Language → Setting → ℕ → Inner
inner_at L S zero = record { as_term = λ x size s. nothing; as_context = λ x size s. nothing }
inner_at L S (suc n) = record {
  as_term = λ x size s. by_alternative (alternatives_of L x) (map (term_height S.known) (alternatives_of L x)) size
      (λ p s'. term S (inner_at L S n) no_notes (size - 1) p s') s;
  as_context = λ x size s. by_alternative (alternatives_of L x) (map (context_height S.known) (alternatives_of L x)) size
      (λ p s'. context S (inner_at L S n) no_notes (size - 1) p s') s;
}

-- the setting of a language
abbrev pub setting_of : Language → Setting
setting_of L = record { known = known_in L; unmentioned = first_five [] (language_literals L) }
