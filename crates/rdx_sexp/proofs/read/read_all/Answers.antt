use Rattle.std.proofs.Common.{ℕ, List, sym, subst}
use Rattle.std.specs.Str.{IsValidUpTo}
use Rattle.rdx_sexp.proofs.Whole.{GivesAll, reading_holds, size_holds, data_holds, refused_holds, fault_holds, refused_front, fault_front}
use Rattle.rdx_sexp.proofs.read.read_all.Goals as goal

pub returns-in-Ok-clause-reading : goal.returns-in-Ok-clause-reading
returns-in-Ok-clause-reading c =
    reading_holds c.args.bytes.now c.read_str.result c.in-Ok.ensures.cases.1 (subst (λ (bs : List ℕ). GivesAll bs c.read_str.result) c.in-Ok.ensures.cases.0 c.read_str.ensures)

pub returns-in-Ok-clause-size : goal.returns-in-Ok-clause-size
returns-in-Ok-clause-size c =
    size_holds c.args.bytes.now c.read_str.result c.requires
    (reading_holds c.args.bytes.now c.read_str.result c.in-Ok.ensures.cases.1 (subst (λ (bs : List ℕ). GivesAll bs c.read_str.result) c.in-Ok.ensures.cases.0 c.read_str.ensures))

pub returns-in-Ok-clause-data : goal.returns-in-Ok-clause-data
returns-in-Ok-clause-data c = λ ds.
    data_holds c.args.bytes.now c.read_str.result ds (subst (λ (bs : List ℕ). GivesAll bs c.read_str.result) c.in-Ok.ensures.cases.0 c.read_str.ensures)

pub returns-in-Ok-clause-refused : goal.returns-in-Ok-clause-refused
returns-in-Ok-clause-refused c =
    refused_holds c.args.bytes.now c.read_str.result c.in-Ok.ensures.cases.1 (subst (λ (bs : List ℕ). GivesAll bs c.read_str.result) c.in-Ok.ensures.cases.0 c.read_str.ensures)

pub returns-in-Ok-clause-fault : goal.returns-in-Ok-clause-fault
returns-in-Ok-clause-fault c = λ q.
    fault_holds c.args.bytes.now c.read_str.result q c.in-Ok.ensures.cases.1 (subst (λ (bs : List ℕ). GivesAll bs c.read_str.result) c.in-Ok.ensures.cases.0 c.read_str.ensures)

pub returns-in-Err-clause-refused : goal.returns-in-Err-clause-refused
returns-in-Err-clause-refused c =
    refused_front c.args.bytes.now c.valid_up_to.result c.not_utf8.result
    (subst (λ (n : ℕ). IsValidUpTo c.args.bytes.now n) (sym c.valid_up_to.ensures) c.in-Err.ensures.cases.1) c.not_utf8.ensures

pub returns-in-Err-clause-fault : goal.returns-in-Err-clause-fault
returns-in-Err-clause-fault c = λ q.
    fault_front c.args.bytes.now c.valid_up_to.result c.not_utf8.result q c.in-Err.ensures.cases.0
    (subst (λ (n : ℕ). IsValidUpTo c.args.bytes.now n) (sym c.valid_up_to.ensures) c.in-Err.ensures.cases.1) c.not_utf8.ensures
