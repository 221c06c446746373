-- From the outcome of the machine to what the bytes are.
use Rattle.std.proofs.Common.{◌≡◌, ◌≤◌, ℕ, List, [], length, take, Result, Ok, Err, refl, sym, ap, ◌∙◌, subst}
use Rattle.std.specs.Prelude.{IfOk, IfErr}
use Rattle.std.specs.Str.{chars, IsUtf8, IsValidUpTo}
use Rattle.std.specs.declared.vec.Vec.{Vec}
use Rattle.rdx_sexp.specs.declared.datum.Datum.{Datum}
use Rattle.rdx_sexp.specs.declared.fault.ReadFault.{ReadFault}
use Rattle.rdx_sexp.specs.declared.fault.ReadFault.TheVariants.{Refused, NoMemory}
use Rattle.rdx_sexp.specs.declared.fault.ReadKind.TheVariants.{NotUtf8}
use Rattle.rdx_sexp.specs.declared.fault.ReadRefusal.{ReadRefusal}
use Rattle.rdx_sexp.specs.Answers.{HasData, HasRefusal, IsRefusal, IsFaultOf}
use Rattle.rdx_sexp.specs.Begin.{body}
use Rattle.rdx_sexp.specs.Lexeme.{Lexeme}
use Rattle.rdx_sexp.specs.Inside.Machine.{run}
use Rattle.rdx_sexp.specs.Reads.{Lexes, Reads, FirstFault, not_utf8, in_text}
use Rattle.rdx_sexp.specs.Refusal.{refusal}
use Rattle.rdx_sexp.specs.Sexp.{Sexp}
use Rattle.rdx_sexp.specs.Size.{AreFileData}
use Rattle.rdx_sexp.specs.Inside.Stack.{Gives}
use Rattle.rdx_sexp.specs.Text.{start, after_all}
use Rattle.rdx_sexp.proofs.Faults.{run-fault}
use Rattle.rdx_sexp.proofs.Lexing.{lexed}
use Rattle.rdx_sexp.proofs.Once.{length_once, not_longer}
use Rattle.rdx_sexp.proofs.Reading.{run-many_all}
use Rattle.rdx_sexp.proofs.ReadSoFar.{many_from_run, fault_from_run}
use Rattle.rdx_sexp.proofs.Sizes.{data_are_of_file_size}

-- the result is what the machine makes of the lexemes of the bytes' characters
abbrev pub GivesAll : {Z : Type 0} → List ℕ → Result (Vec Datum Z) ReadFault → Type 0
GivesAll bytes r = (ls : List Lexeme) → Lexes (body (chars bytes)) ls → Gives r (run [] [] ls)

-- what is read, the bytes are
pub reading_holds : {Z : Type 0} (bytes : List ℕ) (r : Result (Vec Datum Z) ReadFault) → IsUtf8 bytes → GivesAll bytes r → IfOk r (λ v. Reads bytes v.items)
reading_holds bytes (Ok v) u g =
    let x = lexed (body (chars bytes)) in
    record { utf8 = u; lexemes = x.0; lexed = x.1; data_are = many_from_run x.0 v.items (g x.0 x.1) }
reading_holds bytes (Err e) u g = tt

-- it is of file size
pub size_holds : {Z : Type 0} (bytes : List ℕ) (r : Result (Vec Datum Z) ReadFault) → length bytes ≤ 1_048_576 → IfOk r (λ v. Reads bytes v.items) → IfOk r (λ v. AreFileData v.items)
size_holds bytes (Ok v) h reads = data_are_of_file_size bytes v.items h reads
size_holds bytes (Err e) h reads = tt

-- what the bytes are, is read
pub data_holds : {Z : Type 0} (bytes : List ℕ) (r : Result (Vec Datum Z) ReadFault) (ds : List Sexp) → GivesAll bytes r → Reads bytes ds → HasData ds r
data_holds bytes (Ok v) ds g reads =
    let a = run-many_all reads.lexemes ds reads.data_are in
    let b : run [] [] reads.lexemes ≡ Ok v.items = g reads.lexemes reads.lexed in
    cc
data_holds bytes (Err (Refused q)) ds g reads =
    let a = run-many_all reads.lexemes ds reads.data_are in
    let b : run [] [] reads.lexemes ≡ Err q = g reads.lexemes reads.lexed in
    cc
data_holds bytes (Err NoMemory) ds g reads = refl

-- what is refused has this first fault
pub refused_holds : {Z : Type 0} (bytes : List ℕ) (r : Result (Vec Datum Z) ReadFault) → IsUtf8 bytes → GivesAll bytes r → IfErr r (IsFaultOf bytes)
refused_holds bytes (Ok v) u g = tt
refused_holds bytes (Err (Refused q)) u g =
    let x = lexed (body (chars bytes)) in
    in_text x.0 u x.1 (fault_from_run x.0 q (g x.0 x.1))
refused_holds bytes (Err NoMemory) u g = tt

-- and the first fault is what is refused
pub fault_holds : {Z : Type 0} (bytes : List ℕ) (r : Result (Vec Datum Z) ReadFault) (q : ReadRefusal) → IsUtf8 bytes → GivesAll bytes r → FirstFault bytes q → HasRefusal q r
fault_holds bytes r q u g (not_utf8 n v is) = absurd (not_longer bytes n u v)
fault_holds bytes (Ok v) q u g (in_text ls h cut is) =
    absurd (let a = run-fault ls q is in let b : run [] [] ls ≡ Ok v.items = g ls cut in cc)
fault_holds bytes (Err (Refused p)) q u g (in_text ls h cut is) =
    let a = run-fault ls q is in
    let b : run [] [] ls ≡ Err p = g ls cut in
    cc
fault_holds bytes (Err NoMemory) q u g (in_text ls h cut is) = tt

-- ---- bytes that are not UTF-8

-- their refusal, where n of them are
abbrev pub front_refusal : List ℕ → ℕ → ReadRefusal
front_refusal bytes n = refusal NotUtf8 (after_all start (chars (take n bytes)))

-- what is refused has this first fault
pub refused_front : (bytes : List ℕ) (n : ℕ) (e : ReadFault) → IsValidUpTo bytes n → IsRefusal (front_refusal bytes n) e → IsFaultOf bytes e
refused_front bytes n (Refused q) v h = not_utf8 n v h
refused_front bytes n NoMemory v h = tt

-- and the first fault is what is refused
pub fault_front : (bytes : List ℕ) (n : ℕ) (e : ReadFault) (q : ReadRefusal) → (IsUtf8 bytes → ⊥) → IsValidUpTo bytes n → IsRefusal (front_refusal bytes n) e → FirstFault bytes q → IsRefusal q e
fault_front bytes n e q never v h (not_utf8 m w is) =
    subst (λ (x : ReadRefusal). IsRefusal x e) (ap (front_refusal bytes) (length_once bytes n m v w) ∙ sym is) h
fault_front bytes n e q never v h (in_text ls u cut is) = absurd (never u)
