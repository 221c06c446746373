-- The workload: a file of this project's own, which adds up three numbers through a function and two sums, call by value, as many times as one likes.
use Rattle.std.specs.Prelude.{ℕ, zero, suc, ◌+◌, ◌*◌, ◌%◌, List, [], ◌++◌, codes, decimal}
use Rattle.std.specs.Str.{encode_utf8_all}

-- its language, its substitution, which may catch names that are free in what is put in (the tests put in numbers alone), and its relation
abbrev pub definitions : List ℕ
definitions =
    encode_utf8_all (codes "(define-language W (e (e e) (+ e e) x v) (v number (λ (x) e))\n")
    ++ encode_utf8_all (codes "  (x variable-not-otherwise-mentioned) (E hole (E e) (v E) (+ E e) (+ v E)))\n")
    ++ encode_utf8_all (codes "(define-metafunction W\n")
    ++ encode_utf8_all (codes "  [(subst x v x) v]\n")
    ++ encode_utf8_all (codes "  [(subst x v (λ (x) e)) (λ (x) e)]\n")
    ++ encode_utf8_all (codes "  [(subst x_1 v (λ (x_2) e)) (λ (x_2) (subst x_1 v e))]\n")
    ++ encode_utf8_all (codes "  [(subst x v (+ e_1 e_2)) (+ (subst x v e_1) (subst x v e_2))]\n")
    ++ encode_utf8_all (codes "  [(subst x v (e_1 e_2)) ((subst x v e_1) (subst x v e_2))]\n")
    ++ encode_utf8_all (codes "  [(subst x v e) e])\n")
    ++ encode_utf8_all (codes "(define red (reduction-relation W\n")
    ++ encode_utf8_all (codes "  (--> (in-hole E (+ number_1 number_2))\n")
    ++ encode_utf8_all (codes "       (in-hole E ,(+ (term number_1) (term number_2))) add)\n")
    ++ encode_utf8_all (codes "  (--> (in-hole E ((λ (x) e) v)) (in-hole E (subst x v e)) beta)))\n")

-- the test of this number: k and two other numbers are added up
abbrev pub test : ℕ → List ℕ
test k =
    let m = (7 * k) % 1000 in
    let j = (13 * k) % 1000 in
    encode_utf8_all (codes "(test-->> red (term ((λ (y) (+ y (+ ") ++ decimal k ++ codes " " ++ decimal m
    ++ codes "))) " ++ decimal j ++ codes ")) (term " ++ decimal (k + m + j) ++ codes "))\n"

-- the tests from the first to the n-th
abbrev pub tests : ℕ → List ℕ
tests zero = []
tests (suc n) = tests n ++ test (suc n)

-- the file with n tests, at whose end they are counted
abbrev pub workload : ℕ → List ℕ
workload n = definitions ++ tests n ++ codes "(test-results)\n"
