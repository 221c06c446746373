-- Where a list of data is cut at the first that passes a test, from one place on.
use Rattle.std.proofs.Common.{◌≡◌, ◌++◌, ◌∙◌, ◌+◌, ◌<◌, ◌≤◌, ℕ, zero, suc, Bool, true, false, List, [], ◌∷◌, length, take, drop, get_or, refl, sym, ap, arith, add-one, if◌then◌else◌}
use Rattle.std.specs.Prelude.{Option, Some, None, option_map}
use Rattle.rdx_sexp.specs.Sexp.{Sexp}

-- the same cut behind these data
abbrev pub behind : List Sexp → Option (List Sexp × List Sexp) → Option (List Sexp × List Sexp)
behind ds o = option_map (λ c. (ds ++ c.0, c.1)) o

-- behind none
pub behind-none : (o : Option (List Sexp × List Sexp)) → behind [] o ≡ o
behind-none None = refl
behind-none (Some c) = refl

-- behind one more
behind-more : (d : Sexp) (ds : List Sexp) (o : Option (List Sexp × List Sexp)) → behind (d ∷ ds) o ≡ option_map (λ c. (d ∷ c.0, c.1)) (behind ds o)
behind-more d ds None = refl
behind-more d ds (Some c) = refl

-- a test, and what it cuts
module _ (test : Sexp → Bool) (cut : List Sexp → Option (List Sexp × List Sexp)) (cut-nil : cut [] ≡ None)
    (cut-more : (d : Sexp) (ds : List Sexp) → cut (d ∷ ds) ≡ (if test d then Some ([], ds) else option_map (λ c. (d ∷ c.0, c.1)) (cut ds))) where
  -- a list that begins with what passes, or does not
  begins : (d : Sexp) (ds : List Sexp) (b : Bool) → test d ≡ b → cut (d ∷ ds) ≡ (if b then Some ([], ds) else option_map (λ c. (d ∷ c.0, c.1)) (cut ds))
  begins d ds b e = cut-more d ds ∙ (λ i. if e i then Some ([], ds) else option_map (λ c. (d ∷ c.0, c.1)) (cut ds))

  -- at what passes
  here : (ds : List Sexp) (i : ℕ) (d : Sexp) → i < length ds → d ≡ get_or ds i d → test d ≡ true → behind (take i ds) (cut (drop i ds)) ≡ Some (take i ds, drop (suc i) ds)
  here [] i d h e f = absurd (omega arith)
  here (c ∷ ds) zero d h e f = behind-none (cut (c ∷ ds)) ∙ begins c ds true (ap test (sym e) ∙ f)
  here (c ∷ ds) (suc i) d h e f =
      behind-more c (take i ds) (cut (drop i ds)) ∙ ap (option_map (λ p. (c ∷ p.0, p.1))) (here ds i d (omega arith) e f)

  pub cut-here : (ds : List Sexp) (i : ℕ) (d : Sexp) → i < length ds → d ≡ get_or ds i d → test d ≡ true → behind (take i ds) (cut (drop i ds)) ≡ Some (take i ds, drop (i + 1) ds)
  cut-here ds i d h e f = here ds i d h e f ∙ ap (λ (n : ℕ). Some (take i ds, drop n ds)) (sym (add-one i))

  -- at another datum
  later : (ds : List Sexp) (i : ℕ) (d : Sexp) → i < length ds → d ≡ get_or ds i d → test d ≡ false
      → behind (take i ds) (cut (drop i ds)) ≡ behind (take (suc i) ds) (cut (drop (suc i) ds))
  later [] i d h e f = absurd (omega arith)
  later (c ∷ ds) zero d h e f = behind-none (cut (c ∷ ds)) ∙ begins c ds false (ap test (sym e) ∙ f)
  later (c ∷ ds) (suc i) d h e f =
      behind-more c (take i ds) (cut (drop i ds)) ∙ ap (option_map (λ p. (c ∷ p.0, p.1))) (later ds i d (omega arith) e f)
      ∙ sym (behind-more c (take (suc i) ds) (cut (drop (suc i) ds)))

  pub cut-later : (ds : List Sexp) (i : ℕ) (d : Sexp) → i < length ds → d ≡ get_or ds i d → test d ≡ false
      → behind (take i ds) (cut (drop i ds)) ≡ behind (take (i + 1) ds) (cut (drop (i + 1) ds))
  cut-later ds i d h e f = later ds i d h e f ∙ ap (λ (n : ℕ). behind (take n ds) (cut (drop n ds))) (sym (add-one i))

  -- at the end
  pub cut-none : (ds : List Sexp) (i : ℕ) → length ds ≤ i → behind (take i ds) (cut (drop i ds)) ≡ None
  cut-none [] zero h = ap (behind []) cut-nil
  cut-none [] (suc i) h = ap (behind []) cut-nil
  cut-none (c ∷ ds) zero h = absurd (omega arith)
  cut-none (c ∷ ds) (suc i) h = behind-more c (take i ds) (cut (drop i ds)) ∙ ap (option_map (λ p. (c ∷ p.0, p.1))) (cut-none ds i (omega arith))
