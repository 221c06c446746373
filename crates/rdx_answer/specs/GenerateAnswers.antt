-- The answers to queries that generate terms of a pattern: one term, or many, until a host expression makes #f for one of them (the Redex reference manual,
-- "Testing").
use Rattle.std.specs.Prelude.{◌≡◌, ℕ, suc, ◌+◌, ◌%◌, Bool, true, false, IsFalse, List, [], ◌∷◌, ◌++◌, Option, Some, None, codes, decimal}
use Rattle.rand_pcg.specs.Lcg.{Lcg}
use Rattle.rdx_term.specs.Text.{tree_text}
use Rattle.rdx_term.specs.Tree.{Tree}
use Rattle.rdx_lang.specs.Bindings.{Binding}
use Rattle.rdx_lang.specs.Listing.{Matches}
use Rattle.rdx_lang.specs.Patterns.{Pattern, Language}
use Rattle.rdx_lang.specs.Programs.{Program, language_named}
use Rattle.rdx_lang.specs.Templates.{Host}
use Rattle.rdx_gen.specs.Generated.{Answer, generated, bad_name, barren, too_deep, too_large, Generates}
use Rattle.rdx_gen.specs.Words.{words_of}
use Rattle.rdx_eval.specs.Answers as evaluation
use Rattle.rdx_eval.specs.Answers.{Fault, Then}
use Rattle.rdx_eval.specs.Calls.{Calls}
use Rattle.rdx_eval.specs.Heights.{calls_at, height}
use Rattle.rdx_eval.specs.Instantiation.{HostMakes, is_false}
use Rattle.rdx_answer.specs.AnswerText.{binding_text, fault_line}

-- ---- one term

-- `generated t`, or the line of what keeps one from being generated
abbrev pub generated_text : Answer → List ℕ
generated_text (generated t) = codes "generated " ++ tree_text t ++ codes "\n"
generated_text (bad_name x) = codes "fault GenName " ++ x ++ codes "\n"
generated_text barren = codes "fault Barren\n"
generated_text too_deep = codes "fault TooDeep\n"
generated_text too_large = codes "fault TooLarge\n"

-- a term is generated
abbrev pub is_term : Answer → Bool
is_term (generated t) = true
is_term (bad_name x) = false
is_term barren = false
is_term too_deep = false
is_term too_large = false

-- `generate-term` writes a term of the pattern, in the language of this name, from the words of the seed; what is stated is met unless there is a fault
pub record IsGenerateAnswer (P : Program) (name : List ℕ) (p : Pattern) (size seed : ℕ) (text : List ℕ) (met : Bool) : Type 0 where
  pub language : Language
  pub known : language_named P name ≡ Some language
  pub answer : Answer
  pub left : Lcg
  pub generates : Generates language p size (words_of seed) answer left
  pub printed : text ≡ generated_text answer
  pub is_met : met ≡ is_term answer

-- ---- many terms

-- this binding, where the test says so, and else what R has
abbrev pub IsThisOr : Bool → Binding → (evaluation.Answer (Option Binding) → Type 0) → evaluation.Answer (Option Binding) → Type 0
IsThisOr true b R = λ r. r ≡ evaluation.value (Some b)
IsThisOr false b R = R

-- the first of these bindings for which the host expression makes #f, if there is one; or the first fault
abbrev pub FirstFalseOf : Calls → Host → List Binding → evaluation.Answer (Option Binding) → Type 0
FirstFalseOf C h [] = λ r. r ≡ evaluation.value None
FirstFalseOf C h (b ∷ bs) = Then (HostMakes C b h) (λ t. IsThisOr (is_false t) b (FirstFalseOf C h bs))

-- what attempts come to: all pass; one fails, with this number, its term and a binding; or there is a fault, which has this line
pub data Verdict : Type 0 where
  passed : Verdict
  failed : ℕ → Tree → Binding → Verdict
  hindered : List ℕ → Verdict

-- After j attempts, with n to come, from these words on: each generates a term, by a size from 0 to 5 in turn, and the words that it leaves are the next
-- one's. It passes where the host expression makes #f for no binding by which the pattern matches the term, of which the least is looked at first.
pub data Attempts (C : Calls) (L : Language) (p : Pattern) (h : Host) : ℕ → ℕ → Lcg → Verdict → Type 0 where
  all_pass : {j : ℕ} {w : Lcg} → Attempts C L p h j 0 w passed
  none_made : {j n : ℕ} {w v : Lcg} (a : Answer) → Generates L p (j % 6) w a v → IsFalse (is_term a)
      → Attempts C L p h j (suc n) w (hindered (generated_text a))
  one_fails : {j n : ℕ} {w v : Lcg} (t : Tree) (bs : List Binding) (b : Binding) → Generates L p (j % 6) w (generated t) v → Matches L p t bs
      → FirstFalseOf C h bs (evaluation.value (Some b)) → Attempts C L p h j (suc n) w (failed (j + 1) t b)
  one_faults : {j n : ℕ} {w v : Lcg} (t : Tree) (bs : List Binding) (f : Fault) → Generates L p (j % 6) w (generated t) v → Matches L p t bs
      → FirstFalseOf C h bs (evaluation.fault f) → Attempts C L p h j (suc n) w (hindered (fault_line f))
  one_passes : {j n : ℕ} {w v : Lcg} {o : Verdict} (t : Tree) (bs : List Binding) → Generates L p (j % 6) w (generated t) v → Matches L p t bs
      → FirstFalseOf C h bs (evaluation.value None) → Attempts C L p h (j + 1) n v o → Attempts C L p h j (suc n) w o

-- `check passed N`: that so many attempts pass
abbrev pub passed_line : ℕ → List ℕ
passed_line n = codes "check passed " ++ decimal n ++ codes "\n"

-- `check failed K t`, and the binding on a line of its own: which attempt fails, its term, and why
abbrev pub failed_lines : ℕ → Tree → Binding → List ℕ
failed_lines k t b = codes "check failed " ++ decimal k ++ codes " " ++ tree_text t ++ codes "\n  " ++ binding_text b ++ codes "\n"

-- that all of so many attempts pass, or which one fails; or the line of the fault
abbrev pub check_text : ℕ → Verdict → List ℕ
check_text n passed = passed_line n
check_text n (failed k t b) = failed_lines k t b
check_text n (hindered line) = line

-- all attempts pass
abbrev pub is_passed : Verdict → Bool
is_passed passed = true
is_passed (failed k t b) = false
is_passed (hindered line) = false

-- `redex-check` makes so many attempts, in the language of this name, from the words of the seed; what is stated is met where all pass
pub record IsCheckAnswer (P : Program) (name : List ℕ) (p : Pattern) (h : Host) (attempts seed : ℕ) (text : List ℕ) (met : Bool) : Type 0 where
  pub language : Language
  pub known : language_named P name ≡ Some language
  pub verdict : Verdict
  pub tried : Attempts (calls_at P height) language p h 0 attempts (words_of seed) verdict
  pub printed : text ≡ check_text attempts verdict
  pub is_met : met ≡ is_passed verdict
