-- A file has one transcript.
use Rattle.std.specs.Bool.{IsFalse}
use Rattle.std.specs.Prelude.{IsTrue}
use Rattle.std.proofs.Common.{◌≡◌, ℕ, List, [], ◌++◌, true, Option, Some, ap, sym, ◌∙◌, subst, codes, decimal, arith}
use Rattle.rdx_term.specs.Tree.{Tree}
use Rattle.rdx_lang.specs.Patterns.{Language}
use Rattle.rdx_lang.specs.Programs.{Program}
use Rattle.rdx_lang.specs.declared.pattern.Ref.TheVariants.{Nt}
use Rattle.rdx_enum.specs.Laws.{OneTerms}
use Rattle.rdx_enum.specs.UpTo.{TermsUpTo}
use Rattle.rdx_patterns.specs.Refusal.{Refusal}
use Rattle.rdx_query.specs.Writing.{Writes}
use Rattle.rdx_query.specs.File.{IsFile, IsFileRefusal}
use Rattle.rdx_answer.specs.Queries.{Query}
use Rattle.rdx_answer.specs.Workload as file
use Rattle.rdx_query.specs.Laws.{OneMeaning, OneText, OneRefusal, NeverBothAcceptedAndRefused, NeverBothTextAndRefusal}
use Rattle.rdx_sexp.specs.Laws.{OneReading, OneFault, DataOrFault}
use Rattle.rdx_sexp.specs.Print.{canonical_text}
use Rattle.rdx_sexp.specs.Sexp.{Sexp}
use Rattle.rdx_typeset.specs.Forms.{typeset_text}
use Rattle.rdx_cli.specs.Laws.{SaysOne}
use Rattle.rdx_cli.specs.Refusals.{read_line, form_line}
use Rattle.rdx_cli.specs.Transcript.{AreData, IsUnread, too_long, at_fault, verdict_of}
use Rattle.rdx_cli.specs.Transcript.{RunWrites, unread, refused, answered, last_line, WorkloadWrites, IsTranscript}
use Rattle.rdx_cli.specs.Transcript.{TypesetWrites, unset, not_set, is_set, FormatWrites, unprinted, printed, TermsWrites, not_data, not_accepted, not_there, are_listed, last_language, has_nonterminal, terms_text}
use Rattle.rdx_cli.specs.declared.transcript.Verdict.{Verdict}
use Rattle.rdx_cli.specs.Words.{Row, run, why, step, workload, typeset, format, terms}

module _ (one_reading : OneReading) (one_fault : OneFault) (data_or_fault : DataOrFault) (one_text : OneText) (one_refusal : OneRefusal) (never_both : NeverBothTextAndRefusal) (never_both_accepted : NeverBothAcceptedAndRefused) (one_meaning : OneMeaning) (one_terms : OneTerms) where
  -- ---- files

  -- a file is one list of data
  same_data : (bytes : List ℕ) (ds es : List Sexp) → AreData bytes ds → AreData bytes es → ds ≡ es
  same_data bytes ds es a b = one_reading bytes ds es a.read b.read

  -- one that is no data has one line
  one_line : (bytes t u : List ℕ) → IsUnread bytes t → IsUnread bytes u → t ≡ u
  one_line bytes t u (too_long h e) (too_long k g) = e ∙ sym g
  one_line bytes t u (too_long h e) (at_fault k r f g) = absurd (omega (arith, h, k))
  one_line bytes t u (at_fault h r f e) (too_long k g) = absurd (omega (arith, h, k))
  one_line bytes t u (at_fault h r f e) (at_fault k q n g) = e ∙ ap read_line (one_fault bytes r q f n) ∙ sym g

  -- and is none
  unread_is_no_data : (bytes t : List ℕ) (ds : List Sexp) → IsUnread bytes t → AreData bytes ds → ⊥
  unread_is_no_data bytes t ds (too_long h e) a = let k = a.limit in omega (arith, h, k)
  unread_is_no_data bytes t ds (at_fault h r f e) a = data_or_fault bytes ds r a.read f

  -- ---- what is written by one list of choices

  -- data with a form that is refused have one line
  one_form_line : (ds : List Sexp) (t u : List ℕ) (r q : Refusal) → IsFileRefusal ds r → IsFileRefusal ds q → t ≡ form_line r → u ≡ form_line q → t ≡ u
  one_form_line ds t u r q a b e g = e ∙ ap form_line (one_refusal ds r q a b) ∙ sym g

  run_writes_once : (cs bytes t u : List ℕ) (v w : Verdict) → RunWrites cs bytes t v → RunWrites cs bytes u w → (t ≡ u) × (v ≡ w)
  run_writes_once cs bytes t u v w (unread a e) (unread b g) = (one_line bytes t u a b, e ∙ sym g)
  run_writes_once cs bytes t u v w (unread a e) (refused ds r b n m g) = absurd (unread_is_no_data bytes t ds a b)
  run_writes_once cs bytes t u v w (unread a e) (answered ds m b n g) = absurd (unread_is_no_data bytes t ds a b)
  run_writes_once cs bytes t u v w (refused ds r a n m e) (unread b g) = absurd (unread_is_no_data bytes u ds b a)
  run_writes_once cs bytes t u v w (refused ds r a n m e) (refused es q b k l g) =
      let d : es ≡ ds = same_data bytes es ds b a in
      (one_form_line ds t u r q n (subst (λ (xs : List Sexp). IsFileRefusal xs q) d k) m l, e ∙ sym g)
  run_writes_once cs bytes t u v w (refused ds r a n m e) (answered es p b k g) =
      let d : es ≡ ds = same_data bytes es ds b a in
      absurd (never_both ds cs u p r (subst (λ (xs : List Sexp). Writes xs cs u p) d k) n)
  run_writes_once cs bytes t u v w (answered ds m a n e) (unread b g) = absurd (unread_is_no_data bytes u ds b a)
  run_writes_once cs bytes t u v w (answered ds m a n e) (refused es q b k l g) =
      let d : es ≡ ds = same_data bytes es ds b a in
      absurd (never_both ds cs t m q n (subst (λ (xs : List Sexp). IsFileRefusal xs q) d k))
  run_writes_once cs bytes t u v w (answered ds m a n e) (answered es p b k g) =
      let d : es ≡ ds = same_data bytes es ds b a in
      let same = one_text ds cs t u m p n (subst (λ (xs : List Sexp). Writes xs cs u p) d k) in
      (same.0, e ∙ ap verdict_of same.1 ∙ sym g)

  -- the workload has one file, and its text depends on what is written for that alone
  workload_writes_once : (n : ℕ) (t u : List ℕ) (v w : Verdict) → WorkloadWrites n t v → WorkloadWrites n u w → (t ≡ u) × (v ≡ w)
  workload_writes_once n t u v w a b =
      let same = run_writes_once [] (file.workload n) a.whole b.whole v w a.written b.written in
      (a.printed ∙ ap (λ (whole : List ℕ). codes "workload " ++ decimal n ++ codes "\n" ++ last_line whole) same.0 ∙ sym b.printed, same.1)

  -- ---- typeset and canonical text

  typeset_writes_once : (bytes t u : List ℕ) (v w : Verdict) → TypesetWrites bytes t v → TypesetWrites bytes u w → (t ≡ u) × (v ≡ w)
  typeset_writes_once bytes t u v w (unset a e) (unset b g) = (one_line bytes t u a b, e ∙ sym g)
  typeset_writes_once bytes t u v w (unset a e) (not_set ds r b n m g) = absurd (unread_is_no_data bytes t ds a b)
  typeset_writes_once bytes t u v w (unset a e) (is_set ds P qs b n m g) = absurd (unread_is_no_data bytes t ds a b)
  typeset_writes_once bytes t u v w (not_set ds r a n m e) (unset b g) = absurd (unread_is_no_data bytes u ds b a)
  typeset_writes_once bytes t u v w (not_set ds r a n m e) (not_set es q b k l g) =
      let d : es ≡ ds = same_data bytes es ds b a in
      (one_form_line ds t u r q n (subst (λ (xs : List Sexp). IsFileRefusal xs q) d k) m l, e ∙ sym g)
  typeset_writes_once bytes t u v w (not_set ds r a n m e) (is_set es P qs b k l g) =
      let d : es ≡ ds = same_data bytes es ds b a in
      absurd (never_both_accepted ds P qs r (subst (λ (xs : List Sexp). IsFile xs P qs) d k) n)
  typeset_writes_once bytes t u v w (is_set ds P qs a n m e) (unset b g) = absurd (unread_is_no_data bytes u ds b a)
  typeset_writes_once bytes t u v w (is_set ds P qs a n m e) (not_set es q b k l g) =
      let d : es ≡ ds = same_data bytes es ds b a in
      absurd (never_both_accepted ds P qs q n (subst (λ (xs : List Sexp). IsFileRefusal xs q) d k))
  typeset_writes_once bytes t u v w (is_set ds P qs a n m e) (is_set es Q rs b k l g) =
      (m ∙ ap typeset_text (same_data bytes ds es a b) ∙ sym l, e ∙ sym g)

  format_writes_once : (bytes t u : List ℕ) (v w : Verdict) → FormatWrites bytes t v → FormatWrites bytes u w → (t ≡ u) × (v ≡ w)
  format_writes_once bytes t u v w (unprinted a e) (unprinted b g) = (one_line bytes t u a b, e ∙ sym g)
  format_writes_once bytes t u v w (unprinted a e) (printed ds b m g) = absurd (unread_is_no_data bytes t ds a b)
  format_writes_once bytes t u v w (printed ds a m e) (unprinted b g) = absurd (unread_is_no_data bytes u ds b a)
  format_writes_once bytes t u v w (printed ds a m e) (printed es b l g) = (m ∙ ap canonical_text (same_data bytes ds es a b) ∙ sym l, e ∙ sym g)

  -- ---- terms up to a size

  -- data that are accepted define one program
  one_program : (bytes : List ℕ) (ds es : List Sexp) (P Q : Program) (qs rs : List Query) → AreData bytes ds → AreData bytes es → IsFile ds P qs
      → IsFile es Q rs → P ≡ Q
  one_program bytes ds es P Q qs rs a b n k =
      (one_meaning ds P Q qs rs n (subst (λ (xs : List Sexp). IsFile xs Q rs) (same_data bytes es ds b a) k)).0

  -- a program has the nonterminal or not
  one_or_other : (x : List ℕ) (P Q : Program) (L : Language) → P ≡ Q → IsFalse (has_nonterminal (last_language P) x) → last_language Q ≡ Some L
      → IsTrue (has_nonterminal (Some L) x) → ⊥
  one_or_other x P Q L e f l t =
      let none : IsFalse (has_nonterminal (Some L) x) = subst (λ (o : Option Language). IsFalse (has_nonterminal o x)) (ap last_language e ∙ l) f in
      let some : has_nonterminal (Some L) x ≡ true = t in
      absurd cc

  -- a program has one listing
  one_list : (x : List ℕ) (k : ℕ) (P Q : Program) (L M : Language) (ts us : List Tree) → P ≡ Q → last_language P ≡ Some L → last_language Q ≡ Some M
      → TermsUpTo L (Nt x) k ts → TermsUpTo M (Nt x) k us → ts ≡ us
  one_list x k P Q L M ts us e l m a b =
      let some : Some M ≡ Some L = sym m ∙ ap last_language (sym e) ∙ l in
      let same : M ≡ L = cc in
      one_terms L (Nt x) k ts us a (subst (λ (N : Language). TermsUpTo N (Nt x) k us) same b)

  terms_writes_once : (x : List ℕ) (k : ℕ) (bytes t u : List ℕ) (v w : Verdict) → TermsWrites x k bytes t v → TermsWrites x k bytes u w
      → (t ≡ u) × (v ≡ w)
  terms_writes_once x k bytes t u v w (not_data a e) (not_data b g) = (one_line bytes t u a b, e ∙ sym g)
  terms_writes_once x k bytes t u v w (not_data a e) (not_accepted ds r b n m g) = absurd (unread_is_no_data bytes t ds a b)
  terms_writes_once x k bytes t u v w (not_data a e) (not_there ds P qs b n f m g) = absurd (unread_is_no_data bytes t ds a b)
  terms_writes_once x k bytes t u v w (not_data a e) (are_listed ds P qs L ts b n l i j m g) = absurd (unread_is_no_data bytes t ds a b)
  terms_writes_once x k bytes t u v w (not_accepted ds r a n m e) (not_data b g) = absurd (unread_is_no_data bytes u ds b a)
  terms_writes_once x k bytes t u v w (not_accepted ds r a n m e) (not_accepted es q b h l g) =
      let d : es ≡ ds = same_data bytes es ds b a in
      (one_form_line ds t u r q n (subst (λ (xs : List Sexp). IsFileRefusal xs q) d h) m l, e ∙ sym g)
  terms_writes_once x k bytes t u v w (not_accepted ds r a n m e) (not_there es P qs b h f l g) =
      let d : es ≡ ds = same_data bytes es ds b a in
      absurd (never_both_accepted ds P qs r (subst (λ (xs : List Sexp). IsFile xs P qs) d h) n)
  terms_writes_once x k bytes t u v w (not_accepted ds r a n m e) (are_listed es P qs L ts b h s i j l g) =
      let d : es ≡ ds = same_data bytes es ds b a in
      absurd (never_both_accepted ds P qs r (subst (λ (xs : List Sexp). IsFile xs P qs) d h) n)
  terms_writes_once x k bytes t u v w (not_there ds P qs a n f m e) (not_data b g) = absurd (unread_is_no_data bytes u ds b a)
  terms_writes_once x k bytes t u v w (not_there ds P qs a n f m e) (not_accepted es q b h l g) =
      let d : es ≡ ds = same_data bytes es ds b a in
      absurd (never_both_accepted ds P qs q n (subst (λ (xs : List Sexp). IsFileRefusal xs q) d h))
  terms_writes_once x k bytes t u v w (not_there ds P qs a n f m e) (not_there es Q rs b h p l g) = (m ∙ sym l, e ∙ sym g)
  terms_writes_once x k bytes t u v w (not_there ds P qs a n f m e) (are_listed es Q rs L ts b h s i j l g) =
      absurd (one_or_other x P Q L (one_program bytes ds es P Q qs rs a b n h) f s i)
  terms_writes_once x k bytes t u v w (are_listed ds P qs L ts a n s i j m e) (not_data b g) = absurd (unread_is_no_data bytes u ds b a)
  terms_writes_once x k bytes t u v w (are_listed ds P qs L ts a n s i j m e) (not_accepted es q b h l g) =
      let d : es ≡ ds = same_data bytes es ds b a in
      absurd (never_both_accepted ds P qs q n (subst (λ (xs : List Sexp). IsFileRefusal xs q) d h))
  terms_writes_once x k bytes t u v w (are_listed ds P qs L ts a n s i j m e) (not_there es Q rs b h f l g) =
      absurd (one_or_other x Q P L (one_program bytes es ds Q P rs qs b a h n) f s i)
  terms_writes_once x k bytes t u v w (are_listed ds P qs L ts a n s i j m e) (are_listed es Q rs M us b h p q r l g) =
      let same = one_list x k P Q L M ts us (one_program bytes ds es P Q qs rs a b n h) s p j r in
      (m ∙ ap terms_text same ∙ sym l, e ∙ sym g)

  -- ---- row by row of the table of words

  pub one_transcript : (row : Row) (bytes t u : List ℕ) (v w : Verdict) → SaysOne row → IsTranscript row bytes t v → IsTranscript row bytes u w
      → (t ≡ u) × (v ≡ w)
  one_transcript run bytes t u v w o a b = run_writes_once [] bytes t u v w a b
  one_transcript why bytes t u v w o a b = absurd o
  one_transcript (step cs) bytes t u v w o a b = run_writes_once cs bytes t u v w a b
  one_transcript (workload n) bytes t u v w o a b = workload_writes_once n t u v w a b
  one_transcript typeset bytes t u v w o a b = typeset_writes_once bytes t u v w a b
  one_transcript format bytes t u v w o a b = format_writes_once bytes t u v w a b
  one_transcript (terms x k) bytes t u v w o a b = terms_writes_once x k bytes t u v w a b
