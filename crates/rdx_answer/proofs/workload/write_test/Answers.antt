use Rattle.std.proofs.Common.{◌≡◌, ◌++◌, ◌∙◌, ◌+◌, ◌*◌, ◌%◌, ℕ, List, ap, codes}
use Rattle.std.specs.Prelude.{decimal}
use Rattle.std.specs.Str.{encode_utf8_all}
use Rattle.rdx_answer.proofs.WrittenBehind.{written_behind}
use Rattle.rdx_answer.proofs.workload.write_test.Goals as goal

pub returns : goal.returns
unfolding lib.Utf8.encode
returns c =
    let o : List ℕ = c.args.out.now.items in
    let n = c.args.k in
    let m = (7 * n) % 1000 in
    let j = (13 * n) % 1000 in
    let a : List ℕ = encode_utf8_all (codes "(test-->> red (term ((λ (y) (+ y (+ ") in
    let b : List ℕ = a ++ decimal n in
    let d : List ℕ = b ++ codes " " in
    let e : List ℕ = d ++ decimal m in
    let f : List ℕ = e ++ codes "))) " in
    let g : List ℕ = f ++ decimal j in
    let h : List ℕ = g ++ codes ")) (term " in
    let k : List ℕ = h ++ decimal (n + m + j) in
    let opened : c.extend_from_slice.new.self.items ≡ o ++ a = c.in_ok-extend_from_slice.ensures.items ∙ ap (λ (x : List ℕ). o ++ x) c.as_bytes.ensures.value in
    let first : c.write_number.new.out.items ≡ o ++ b = written_behind o a (decimal n) opened c.in_ok-write_number.ensures in
    let apart : c.push.new.self.items ≡ o ++ d = written_behind o b (codes " ") first c.in_ok-push.ensures.items in
    let second : c.write_number-2.new.out.items ≡ o ++ e = written_behind o d (decimal m) apart c.in_ok-write_number-2.ensures in
    let closed : c.extend_from_slice-2.new.self.items ≡ o ++ f = written_behind o e (codes "))) ") second c.in_ok-extend_from_slice-2.ensures.items in
    let third : c.write_number-3.new.out.items ≡ o ++ g = written_behind o f (decimal j) closed c.in_ok-write_number-3.ensures in
    let wanted : c.extend_from_slice-3.new.self.items ≡ o ++ h = written_behind o g (codes ")) (term ") third c.in_ok-extend_from_slice-3.ensures.items in
    let sum : c.write_number-4.new.out.items ≡ o ++ k = written_behind o h (decimal (n + m + j)) wanted c.in_ok-write_number-4.ensures in
    written_behind o k (codes "))\n") sum c.in_ok-extend_from_slice-4.ensures.items
