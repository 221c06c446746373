-- What is listed of a program.
use Rattle.std.specs.Prelude.{◌≡◌, ℕ, IsTrue, List, Some}
use Rattle.std.specs.Bool.{IsFalse}
use Rattle.rdx_term.specs.Tree.{Tree}
use Rattle.rdx_lang.specs.Patterns.{Language}
use Rattle.rdx_lang.specs.Programs.{Program}
use Rattle.rdx_lang.specs.declared.pattern.Ref.TheVariants.{Nt}
use Rattle.rdx_enum.specs.UpTo.{TermsUpTo}
use Rattle.rdx_cli.specs.Refusals.{nonterminal_line}
use Rattle.rdx_cli.specs.Transcript.{last_language, has_nonterminal, terms_text}
use Rattle.rdx_cli.specs.declared.transcript.Verdict.{Verdict}
use Rattle.rdx_cli.specs.declared.transcript.Verdict.TheVariants.{Done, Refused}

-- what is written of a program: that its last language has not this nonterminal, or all terms up to this size
pub data Lists (x : List ℕ) (k : ℕ) (P : Program) (text : List ℕ) (verdict : Verdict) : Type 0 where
  has_none : IsFalse (has_nonterminal (last_language P) x) → text ≡ nonterminal_line x → verdict ≡ Refused → Lists x k P text verdict
  lists : (L : Language) (ts : List Tree) → last_language P ≡ Some L → IsTrue (has_nonterminal (Some L) x) → TermsUpTo L (Nt x) k ts
      → text ≡ terms_text ts → verdict ≡ Done → Lists x k P text verdict
