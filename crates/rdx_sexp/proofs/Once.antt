-- A text has its lexemes once, and lexemes spell their data once.
use Rattle.std.proofs.Common.{◌≡◌, ℕ, List, [], ◌∷◌, length, take, Ok, Err, refl, ap, sym, ◌∙◌, subst, arith}
use Rattle.std.proofs.lemmas.List.{take_all}
use Rattle.std.proofs.lemmas.Str.{utf8_valid_len-IsValidUpTo}
use Rattle.std.specs.Str.{chars, IsUtf8, IsValidUpTo}
use Rattle.rdx_sexp.specs.declared.fault.ReadKind.TheVariants.{NotUtf8}
use Rattle.rdx_sexp.specs.declared.fault.ReadRefusal.{ReadRefusal}
use Rattle.rdx_sexp.specs.Begin.{body}
use Rattle.rdx_sexp.specs.Fault.{FaultOf}
use Rattle.rdx_sexp.specs.Lex.{Step}
use Rattle.rdx_sexp.specs.Lexeme.{Lexeme}
use Rattle.rdx_sexp.specs.Inside.Machine.{Outcome, run}
use Rattle.rdx_sexp.specs.Reads.{Lexes, lexes_end, lexes_more, Reads, FirstFault, not_utf8, in_text}
use Rattle.rdx_sexp.specs.Refusal.{refusal}
use Rattle.rdx_sexp.specs.Sexp.{Sexp}
use Rattle.rdx_sexp.specs.Text.{Text, start, after_all}
use Rattle.rdx_sexp.proofs.Faults.{run-fault, no_fault}
use Rattle.rdx_sexp.proofs.Reading.{run-many_all}

lexemes_once : (ls ms : List Lexeme) (t : Text) → Lexes t ls → Lexes t ms → ls ≡ ms
lexemes_once [] [] t x y = refl
lexemes_once [] (m ∷ ms) t (lexes_end e) (lexes_more f y) = cc
lexemes_once (l ∷ ls) [] t (lexes_more e x) (lexes_end f) = cc
lexemes_once (l ∷ ls) (m ∷ ms) t (lexes_more {rest} e x) (lexes_more {rest = others} f y) =
    let q : (let a : Step = (m, others) in a) ≡ (l, rest) = cc in
    let k : ls ≡ ms = lexemes_once ls ms rest x (subst (λ (u : Text). Lexes u ms) (ap (λ (s : Step). s.1) q) y) in
    let h : l ≡ m = sym (ap (λ (s : Step). s.0) q) in
    λ i. h i ∷ k i

same : (ds es : List Sexp) → (let a : Outcome = Ok ds in a) ≡ Ok es → ds ≡ es
same ds es e = cc

-- bytes are one list of data at most
pub reading_once : (bytes : List ℕ) (ds es : List Sexp) → Reads bytes ds → Reads bytes es → ds ≡ es
reading_once bytes ds es r s =
    let k : r.lexemes ≡ s.lexemes = lexemes_once r.lexemes s.lexemes (body (chars bytes)) r.lexed s.lexed in
    same ds es (sym (run-many_all r.lexemes ds r.data_are) ∙ ap (run [] []) k ∙ run-many_all s.lexemes es s.data_are)

-- the longest front in UTF-8 has one length
pub length_once : (bytes : List ℕ) (n m : ℕ) → IsValidUpTo bytes n → IsValidUpTo bytes m → n ≡ m
length_once bytes n m v w = sym (utf8_valid_len-IsValidUpTo bytes n v) ∙ utf8_valid_len-IsValidUpTo bytes m w

-- what is UTF-8 has no shorter front that is the longest
pub not_longer : (bytes : List ℕ) (n : ℕ) → IsUtf8 bytes → IsValidUpTo bytes n → ⊥
not_longer bytes n u v = v.longest (length bytes) v.short (subst IsUtf8 (sym (take_all (length bytes) bytes (omega arith))) u)

same_refusal : (r q : ReadRefusal) → (let a : Outcome = Err r in a) ≡ Err q → r ≡ q
same_refusal r q e = cc

-- bytes have one first fault at most
pub fault_once : (bytes : List ℕ) (r q : ReadRefusal) → FirstFault bytes r → FirstFault bytes q → r ≡ q
fault_once bytes r q (not_utf8 n v is) (not_utf8 m w be) =
    is ∙ ap (λ k. refusal NotUtf8 (after_all start (chars (take k bytes)))) (length_once bytes n m v w) ∙ sym be
fault_once bytes r q (not_utf8 n v is) (in_text ms u cut be) = absurd (not_longer bytes n u v)
fault_once bytes r q (in_text ls u cut is) (not_utf8 m w be) = absurd (not_longer bytes m u w)
fault_once bytes r q (in_text ls u cut is) (in_text ms t others be) =
    let k : ls ≡ ms = lexemes_once ls ms (body (chars bytes)) cut others in
    same_refusal r q (sym (run-fault ls r is) ∙ ap (run [] []) k ∙ run-fault ms q be)

-- bytes that are data have no fault
pub data_or_fault : (bytes : List ℕ) (ds : List Sexp) (r : ReadRefusal) → Reads bytes ds → FirstFault bytes r → ⊥
data_or_fault bytes ds r reads (not_utf8 n v is) = not_longer bytes n reads.utf8 v
data_or_fault bytes ds r reads (in_text ls u cut is) =
    let k : ls ≡ reads.lexemes = lexemes_once ls reads.lexemes (body (chars bytes)) cut reads.lexed in
    no_fault reads.lexemes ds r (run-many_all reads.lexemes ds reads.data_are) (subst (λ (ms : List Lexeme). FaultOf ms r) k is)
