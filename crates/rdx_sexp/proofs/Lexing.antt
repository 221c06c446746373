-- Every text is cut into lexemes, and a loop over them keeps the outcome.
use Rattle.std.proofs.Common.{◌≡◌, ◌<◌, ℕ, zero, suc, List, [], ◌∷◌, length, Option, Some, None, Err, refl, ap, ◌∙◌, subst, arith}
use Rattle.std.specs.Prelude.{option_map}
use Rattle.rdx_sexp.specs.declared.fault.ReadRefusal.{ReadRefusal}
use Rattle.rdx_sexp.specs.Sexp.{Sexp}
use Rattle.rdx_sexp.specs.Lexeme.{Lexeme, bad}
use Rattle.rdx_sexp.specs.Text.{Text}
use Rattle.rdx_sexp.specs.Lex.{Step, first_lexeme}
use Rattle.rdx_sexp.specs.Reads.{Lexes, lexes_end, lexes_more}
use Rattle.rdx_sexp.specs.Inside.Machine.{Frame, Outcome, run, ended}
use Rattle.rdx_sexp.proofs.Behind.{first_lexeme_is_shorter}

-- a text with its lexemes
abbrev Lexed : Text → Type 0
Lexed t = (ls : List Lexeme) × Lexes t ls

-- by what its first lexeme is, and by its length
lexed_on : (t : Text) (o : Option Step) → ((s : Step) → first_lexeme t ≡ Some s → Lexed s.1) → first_lexeme t ≡ o → Lexed t
lexed_on t None more e = ([], lexes_end e)
lexed_on t (Some s) more e =
    let r = more s e in
    (s.0 ∷ r.0, lexes_more e r.1)

lexed_within : (n : ℕ) (t : Text) → length t.chars < n → Lexed t
lexed_within zero t h = absurd (omega arith)
lexed_within (suc n) t h = lexed_on t (first_lexeme t) (λ s e. lexed_within n s.1 (omega (arith, first_lexeme_is_shorter t s e))) refl

-- each text has its lexemes
pub lexed : (t : Text) → Lexed t
lexed t = lexed_within (suc (length t.chars)) t (omega arith)

-- ---- the loop

-- what is still to be read leads to this outcome
pub record Goes (o : Outcome) (t : Text) (fs : List Frame) (items : List Sexp) : Type 0 where
  pub lexemes : List Lexeme
  pub lexed : Lexes t lexemes
  pub same : o ≡ run fs items lexemes

-- the outcome is that of the first lexeme and some others
record Heads (o : Outcome) (rest : Text) (fs : List Frame) (items : List Sexp) (l : Lexeme) : Type 0 where
  others : List Lexeme
  cut : Lexes rest others
  same : o ≡ run fs items (l ∷ others)

-- where the first lexeme is known
heads : (o : Outcome) (t : Text) (fs : List Frame) (items : List Sexp) (l : Lexeme) (rest : Text) (ls : List Lexeme)
    → first_lexeme t ≡ Some (l, rest) → Lexes t ls → o ≡ run fs items ls → Heads o rest fs items l
heads o t fs items l rest [] e (lexes_end d) same = cc
heads o t fs items l rest (m ∷ ms) e (lexes_more {rest = others} d more) same =
    let q : (let a : Step = (m, others) in a) ≡ (l, rest) = cc in
    let le : m ≡ l = ap (λ (s : Step). s.0) q in
    let re : others ≡ rest = ap (λ (s : Step). s.1) q in
    record {
      others = ms;
      cut = subst (λ (x : Text). Lexes x ms) re more;
      same = same ∙ ap (λ (x : Lexeme). run fs items (x ∷ ms)) le;
    }

-- one more lexeme leads to the same outcome
pub goes_on : (o : Outcome) (t : Text) (fs : List Frame) (items : List Sexp) (l : Lexeme) (rest : Text) (gs : List Frame) (its : List Sexp)
    → first_lexeme t ≡ Some (l, rest) → ((ms : List Lexeme) → run fs items (l ∷ ms) ≡ run gs its ms) → Goes o t fs items → Goes o rest gs its
goes_on o t fs items l rest gs its e step g =
    let h = heads o t fs items l rest g.lexemes e g.lexed g.same in
    record { lexemes = h.others; lexed = h.cut; same = h.same ∙ step h.others }

-- where the first lexeme is refused, by what it is
refused_some : (o : Outcome) (t : Text) (fs : List Frame) (items : List Sexp) (r : ReadRefusal) (ls : List Lexeme)
    → option_map (λ s. s.0) (first_lexeme t) ≡ Some (bad r) → Lexes t ls → o ≡ run fs items ls → o ≡ Err r
refused_some o t fs items r [] e (lexes_end d) same =
    let n : option_map (λ (s : Step). s.0) (first_lexeme t) ≡ None = ap (option_map (λ (s : Step). s.0)) d in
    cc
refused_some o t fs items r (m ∷ ms) e (lexes_more {rest} d more) same =
    let n : option_map (λ (s : Step). s.0) (first_lexeme t) ≡ Some m = ap (option_map (λ (s : Step). s.0)) d in
    let le : m ≡ bad r = cc in
    same ∙ ap (λ (x : Lexeme). run fs items (x ∷ ms)) le

-- a lexeme that is refused is the fault of the text
pub goes_bad : (o : Outcome) (t : Text) (fs : List Frame) (items : List Sexp) (r : ReadRefusal)
    → option_map (λ s. s.0) (first_lexeme t) ≡ Some (bad r) → Goes o t fs items → o ≡ Err r
goes_bad o t fs items r e g = refused_some o t fs items r g.lexemes e g.lexed g.same

-- a lexeme at which the machine stops is the fault of the text
pub goes_refused : (o : Outcome) (t : Text) (fs : List Frame) (items : List Sexp) (l : Lexeme) (rest : Text) (r : ReadRefusal)
    → first_lexeme t ≡ Some (l, rest) → ((ms : List Lexeme) → run fs items (l ∷ ms) ≡ Err r) → Goes o t fs items → o ≡ Err r
goes_refused o t fs items l rest r e step g =
    let h = heads o t fs items l rest g.lexemes e g.lexed g.same in
    h.same ∙ step h.others

-- where no lexeme is left
ends_none : (o : Outcome) (t : Text) (fs : List Frame) (items : List Sexp) (ls : List Lexeme) → first_lexeme t ≡ None → Lexes t ls → o ≡ run fs items ls → o ≡ ended fs items
ends_none o t fs items [] e (lexes_end d) same = same
ends_none o t fs items (m ∷ ms) e (lexes_more d more) same = cc

-- at the end of the text the outcome is there
pub goes_end : (o : Outcome) (t : Text) (fs : List Frame) (items : List Sexp) → first_lexeme t ≡ None → Goes o t fs items → o ≡ ended fs items
goes_end o t fs items e g = ends_none o t fs items g.lexemes e g.lexed g.same
