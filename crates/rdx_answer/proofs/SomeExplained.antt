-- Each answer of a run can be explained: what is found follows by the rules, and what follows has a derivation.
use Rattle.std.proofs.Common.{◌≡◌, ◌++◌, ◌∙◌, ℕ, List, [], ◌∷◌, Bool, true, Option, Some, None, refl, ap, subst, sym, append-nil, map, length, codes, decimal}
use Rattle.std.specs.Prelude.{IsTrue}
use Rattle.std.proofs.lemmas.List.{length-map}
use Rattle.rdx_term.specs.Order.{tree_cmp}
use Rattle.rdx_term.specs.Text.{tree_text}
use Rattle.rdx_term.specs.Tree.{Tree}
use Rattle.rdx_lang.specs.Bindings.{Binding, no_names, visible}
use Rattle.rdx_lang.specs.Decompositions.{Decomposition}
use Rattle.rdx_lang.specs.Listing.{IsListing, IsSeen}
use Rattle.rdx_lang.specs.Members.{In, here, there}
use Rattle.rdx_lang.specs.Patterns.{Pattern, Language}
use Rattle.rdx_lang.specs.Programs.{Premise, Program, language_named}
use Rattle.rdx_lang.specs.Rules.{Match, Split}
use Rattle.rdx_lang.specs.Templates.{Host, Template}
use Rattle.rdx_lang.specs.Valid.{is_valid}
use Rattle.rdx_lang.specs.WellFormed.{is_well_formed_in, has_known_nonterminals, defined}
use Rattle.rdx_lang.proofs.Collecting.{only}
use Rattle.rdx_lang.proofs.JoinLaws.{unit_left-only}
use Rattle.rdx_lang.proofs.NameLaws.{match-ascends}
use Rattle.rdx_lang.proofs.SeenListings.{seen-ascends}
use Rattle.rdx_eval.specs.Answers as evaluation
use Rattle.rdx_eval.specs.Answers.{Answer, fault, Fault, Gather, Single, Lists, lists}
use Rattle.rdx_eval.specs.Calls.{Calls}
use Rattle.rdx_eval.specs.Heights.{calls_at, height}
use Rattle.rdx_eval.specs.Instantiation.{Makes}
use Rattle.rdx_eval.specs.Laws.{IsLedTo}
use Rattle.rdx_eval.proofs.HeldPremises.{meets_lists}
use Rattle.rdx_eval.proofs.OneAnswer.{same_value}
use Rattle.rdx_eval.proofs.Reached.{reached, gathered-sound}
use Rattle.rdx_deriv.specs.Derivations.{Goal, matched, split, judged, Derivation}
use Rattle.rdx_deriv.specs.Holds.{Spoken}
use Rattle.rdx_deriv.specs.Judged.{Judged}
use Rattle.rdx_deriv.specs.Laws.{Follows, HasWellFormedLanguages, WhatFollowsHasDerivation, OutputsAreJudged}
use Rattle.rdx_why.specs.Explaining.{Explains, seen}
use Rattle.rdx_answer.specs.Answering.{Over, over_value, over_fault, IsAnswer, AreAnswers, no_answers, more_answers, counts_behind}
use Rattle.rdx_answer.specs.AnswerText.{binding_text, split_text, holds_text, line_text, lines_text, counted_text}
use Rattle.rdx_answer.specs.Explained.{Part, said, shown, said_text, explained_line, head_line, AreSaid, ExplainEach, explain_none, explain_more, show_value, show_fault, IsMetBy, show_met, show_unmet, show_no_answer, ExplainsValue, show_values, show_no_bindings, show_no_values, Shows, IsExplained, none_explained, more_explained, CanBeExplained, AllCanBeExplained}
use Rattle.rdx_answer.specs.HoldsAnswers.{FindsMet, WritesWhether, whether_found, question_faulted, Values, ValuesOf, values_of, bindings_faulted, WritesValues, values_found, values_faulted}
use Rattle.rdx_answer.specs.Laws.{ExplainsAnswers, EachAnswerIsExplained}
use Rattle.rdx_answer.specs.MatchAnswers.{Finds, FindsSplits, IsMatchesAnswer, IsSplitsAnswer}
use Rattle.rdx_answer.specs.Queries.{Query, matches, whether, splits, value, holds, reducts, tagged, stepper, generate, check, alike, substituted, test_equal, test_step, test_run, test_match, test_holds, test_results}
use Rattle.rdx_answer.specs.Tests.{Counts}
use Rattle.rdx_answer.proofs.ExplainedRuns.{said-append}

-- ---- texts

-- parts that are these lines, behind the first line of so many
counted-said : {A : Type 0} (what : List ℕ) (text : A → List ℕ) (xs : List A) (ps : List Part) → said_text ps ≡ lines_text (map text xs)
    → said_text (head_line what (length xs) ∷ ps) ≡ counted_text what (map text xs)
counted-said what text xs ps e =
    ap (λ t. what ++ codes " " ++ decimal (length xs) ++ codes "\n" ++ t) e
    ∙ ap (λ n. what ++ codes " " ++ decimal n ++ codes "\n" ++ lines_text (map text xs)) (sym (length-map xs text))

-- ---- what is found

-- two languages of one name are one
one_language : (o : Option Language) (L M : Language) → o ≡ Some L → o ≡ Some M → L ≡ M
one_language o L M a b = cc

-- a list that is answered is the listing
listed : {R : Tree → Type 0} {ts : List Tree} → Lists tree_cmp R (evaluation.value ts) → IsListing tree_cmp ts R
listed (lists l) = l

-- a value that a template makes of some bindings, and one of which it is made
record IsMadeOf (C : Calls) (m : Template) (bs : List Binding) (v : Tree) : Type 0 where
  from : Binding
  among : In from bs
  made : Makes C from m (evaluation.value v)

-- each value that is answered is such
made_of : (C : Calls) (m : Template) (bs : List Binding) (vs : List Tree) (v : Tree) → Values C m bs (evaluation.value vs) → In v vs
    → IsMadeOf C m bs v
made_of C m bs vs v h i =
    let k = reached (Gather (λ b. Single (Makes C b m)) bs) (λ ts. Lists tree_cmp (λ u. In u ts)) vs h in
    let g = gathered-sound (λ b. Single (Makes C b m)) bs k.between v k.before ((listed k.behind).sound v i) in
    let r = reached (Makes C g.from m) (λ y a. a ≡ evaluation.value (y ∷ [])) g.given g.gives in
    let one : In v (r.between ∷ []) = subst (λ (us : List Tree). In v us) (sym (same_value g.given (r.between ∷ []) r.behind)) g.one in
    record {
      from = g.from;
      among = g.among;
      made = subst (λ (u : Tree). Makes C g.from m (evaluation.value u)) (sym (only one)) r.before;
    }

-- ---- derivations

-- a derivation of which R holds
record HasOne (R : Derivation → Type 0) : Type 0 where
  derivation : Derivation
  holds : R derivation

-- members that are explained, with the lines that are said of them
record ExplainsEach {A : Type 0} (R : A → Derivation → Type 0) (text : A → List ℕ) (xs : List A) : Type 0 where
  parts : List Part
  each : ExplainEach R text xs parts
  said : said_text parts ≡ lines_text (map text xs)

-- where there is one for each member, all are explained
explain_all : {A : Type 0} (R : A → Derivation → Type 0) (text : A → List ℕ) (xs : List A) → ((x : A) → In x xs → HasOne (R x))
    → ExplainsEach R text xs
explain_all R text [] f = record { parts = []; each = explain_none; said = refl }
explain_all R text (x ∷ xs) f =
    let d = f x (here refl) in
    let r = explain_all R text xs (λ y i. f y (there i)) in
    record {
      parts = explained_line (text x) d.derivation r.parts;
      each = explain_more d.holds r.each;
      said = ap (λ t. line_text (text x) ++ t) r.said;
    }

-- outputs by which a binding meets a premise, with a derivation of them
record HasMeeting (P : Program) (q : Premise) (b : Binding) : Type 0 where
  inputs : Tree
  outputs : Tree
  met : IsMetBy P q inputs outputs b
  why : HasOne (Explains P (judged q.judgement inputs outputs))

-- parts that say this answer, and show what explains it
record ExplainsAnswer (P : Program) (q : Query) (text : List ℕ) : Type 0 where
  parts : List Part
  shows : Shows P q parts
  said : said_text parts ≡ text

-- one part that says all
plain : (text : List ℕ) → AreSaid (said text ∷ [])
plain text = (text, refl)

-- and what it says
all_said : (text : List ℕ) → said_text (said text ∷ []) ≡ text
all_said text = append-nil text

module _ (derived : WhatFollowsHasDerivation) (answered : OutputsAreJudged) (P : Program) (w : HasWellFormedLanguages P)
    (v : IsTrue (is_valid P)) where
  -- what follows is explained
  explained : (g : Goal) → Follows P g → HasOne (Explains P g)
  explained g f =
      let d = derived P g w v f in
      record { derivation = d.derivation; holds = record { holds = d.holds; of_goal = ap seen d.of_goal } }

  -- the language in which the pattern is well formed is that of the name, so that it has the nonterminals of the pattern
  known_in : (name : List ℕ) (p : Pattern) (L : Language) → language_named P name ≡ Some L → Spoken P name p (λ M. IsTrue (is_well_formed_in M p))
      → IsTrue (has_known_nonterminals (defined L) p)
  known_in name p L e s =
      subst (λ M. IsTrue (has_known_nonterminals (defined M) p)) (one_language (language_named P name) s.language L s.named e) s.known

  -- each binding that is found is explained
  match_explained : (name : List ℕ) (p : Pattern) (t : Tree) (found : List Binding) → Finds P name p t found
      → Spoken P name p (λ M. IsTrue (is_well_formed_in M p)) → (b : Binding) → In b found → HasOne (Explains P (matched name p t b))
  match_explained name p t found f s b i =
      let m : IsSeen (Match f.language p t) b = f.listing.sound b i in
      let d = explained (matched name p t m.whole) (record {
        language = f.language;
        named = f.known;
        known = known_in name p f.language f.known s;
        here = m.holds;
      }) in
      record {
        derivation = d.derivation;
        holds = record {
          holds = d.holds.holds;
          of_goal = d.holds.of_goal ∙ ap (λ c. matched name p t (visible c)) (sym m.seen);
        };
      }

  -- each split that is found is explained
  split_explained : (name : List ℕ) (p : Pattern) (t : Tree) (found : List Decomposition) → FindsSplits P name p t found
      → Spoken P name p (λ M. IsTrue (is_well_formed_in M p)) → (s : Decomposition) → In s found
      → HasOne (Explains P (split name p t s.context s.part s.binding))
  split_explained name p t found f s x i =
      let m : IsSeen (Split f.language p t x.context x.part) x.binding = f.listing.sound x i in
      let d = explained (split name p t x.context x.part m.whole) (record {
        language = f.language;
        named = f.known;
        known = known_in name p f.language f.known s;
        here = m.holds;
      }) in
      record {
        derivation = d.derivation;
        holds = record {
          holds = d.holds.holds;
          of_goal = d.holds.of_goal ∙ ap (λ c. split name p t x.context x.part (visible c)) (sym m.seen);
        };
      }

  -- for each binding that meets a premise there are outputs by which it does, and they are explained
  met_explained : (q : Premise) (bs : List Binding) → FindsMet P q (evaluation.value bs) → (b : Binding) → In b bs → HasMeeting P q b
  met_explained q bs f b i =
      let k : IsLedTo f.language (calls_at P height) q no_names b = (meets_lists f.language P height q bs f.meets).sound b i in
      let same : b ≡ k.found = unit_left-only (seen-ascends (λ c h. match-ascends h) k.matched) k.joined in
      let j : Judged P q.judgement k.inputs k.given = (answered P q.judgement k.inputs k.outputs k.answered).sound k.given k.among in
      record {
        inputs = k.inputs;
        outputs = k.given;
        met = record {
          judgement = f.judgement;
          named = f.named;
          language = f.language;
          known = f.known;
          inputs = k.made;
          seen = subst (λ c. IsSeen (Match f.language q.outputs k.given) c) (sym same) k.matched;
        };
        why = explained (judged q.judgement k.inputs k.given) j;
      }

  -- a value that is made of a binding that meets a premise is explained
  value_explained : (q : Premise) (m : Template) (bs : List Binding) (u : Tree) → FindsMet P q (evaluation.value bs)
      → IsMadeOf (calls_at P height) m bs u → HasOne (ExplainsValue P q m u)
  value_explained q m bs u f made =
      let met = met_explained q bs f made.from made.among in
      record {
        derivation = met.why.derivation;
        holds = record {
          inputs = met.inputs;
          outputs = met.outputs;
          binding = made.from;
          met = met.met;
          makes = made.made;
          explains = met.why.holds;
        };
      }

  -- ---- answers

  -- an answer to `redex-match` can be explained
  matches_explained : (name : List ℕ) (p : Pattern) (h : Host) (text : List ℕ) (met : Bool) → CanBeExplained P (matches name p h)
      → Over P h (IsMatchesAnswer P name p) text met → ExplainsAnswer P (matches name p h) text
  matches_explained name p h text met s (over_value t k a) =
      let r = explain_all (λ b. Explains P (matched name p t b)) binding_text a.found (match_explained name p t a.found a.finds s) in
      record {
        parts = head_line (codes "match") (length a.found) ∷ r.parts;
        shows = show_value t k (record { found = a.found; finds = a.finds; explained = r.parts; each = r.each; parts = refl });
        said = counted-said (codes "match") binding_text a.found r.parts r.said ∙ sym a.printed;
      }
  matches_explained name p h text met s (over_fault f k e n) =
      record { parts = said text ∷ []; shows = show_fault f k (plain text); said = all_said text }

  -- so can one to `redex-decompose`
  splits_explained : (name : List ℕ) (p : Pattern) (h : Host) (text : List ℕ) (met : Bool) → CanBeExplained P (splits name p h)
      → Over P h (IsSplitsAnswer P name p) text met → ExplainsAnswer P (splits name p h) text
  splits_explained name p h text met s (over_value t k a) =
      let r = explain_all (λ x. Explains P (split name p t x.context x.part x.binding)) split_text a.found
      (split_explained name p t a.found a.finds s) in
      record {
        parts = head_line (codes "splits") (length a.found) ∷ r.parts;
        shows = show_value t k (record { found = a.found; finds = a.finds; explained = r.parts; each = r.each; parts = refl });
        said = counted-said (codes "splits") split_text a.found r.parts r.said ∙ sym a.printed;
      }
  splits_explained name p h text met s (over_fault f k e n) =
      record { parts = said text ∷ []; shows = show_fault f k (plain text); said = all_said text }

  -- one that says whether a premise is met
  holds_explained : (q : Premise) (found : Answer (List Binding)) (text : List ℕ) (met : Bool) → FindsMet P q found
      → WritesWhether found text met → ExplainsAnswer P (holds q None) text
  holds_explained q (evaluation.value []) text met f (whether_found e m) =
      record { parts = said text ∷ []; shows = show_unmet f (plain text); said = all_said text }
  holds_explained q (evaluation.value (b ∷ bs)) text met f (whether_found e m) =
      let k = met_explained q (b ∷ bs) f b (here refl) in
      record {
        parts = said (holds_text true) ∷ shown k.why.derivation ∷ [];
        shows = show_met k.why.derivation (record {
          inputs = k.inputs;
          outputs = k.outputs;
          binding = b;
          met = k.met;
          explains = k.why.holds;
        }) refl;
        said = append-nil (holds_text true) ∙ sym e;
      }
  holds_explained q (fault x) text met f (question_faulted e n) =
      record { parts = said text ∷ []; shows = show_no_answer x f (plain text); said = all_said text }

  -- and one that has what a template makes of the bindings that meet it
  template_explained : (q : Premise) (m : Template) (found : Answer (List Binding)) (made : Answer (List Tree)) (text : List ℕ) (met : Bool)
      → FindsMet P q found → ValuesOf (calls_at P height) m found made → WritesValues made text met → ExplainsAnswer P (holds q (Some m)) text
  template_explained q m (evaluation.value bs) (evaluation.value vs) text met f (values_of g) (values_found e n) =
      let r = explain_all (ExplainsValue P q m) tree_text vs
      (λ u i. value_explained q m bs u f (made_of (calls_at P height) m bs vs u g i)) in
      record {
        parts = head_line (codes "answers") (length vs) ∷ r.parts;
        shows = show_values bs vs r.parts f g r.each refl;
        said = counted-said (codes "answers") tree_text vs r.parts r.said ∙ sym e;
      }
  template_explained q m (evaluation.value bs) (fault x) text met f (values_of g) (values_faulted e n) =
      record { parts = said text ∷ []; shows = show_no_values bs x f g (plain text); said = all_said text }
  template_explained q m (fault x) made text met f bindings_faulted k =
      record { parts = said text ∷ []; shows = show_no_bindings x f (plain text); said = all_said text }

  -- each answer can be explained
  answer_explained : (c : Counts) (q : Query) (text : List ℕ) (met : Bool) → CanBeExplained P q → IsAnswer P [] c q text met
      → ExplainsAnswer P q text
  answer_explained c (matches name p h) text met s a = matches_explained name p h text met s a
  answer_explained c (whether name p h) text met s a = record { parts = said text ∷ []; shows = plain text; said = all_said text }
  answer_explained c (splits name p h) text met s a = splits_explained name p h text met s a
  answer_explained c (value h) text met s a = record { parts = said text ∷ []; shows = plain text; said = all_said text }
  answer_explained c (holds q None) text met s a = holds_explained q a.found text met a.finds a.written
  answer_explained c (holds q (Some m)) text met s a = template_explained q m a.found a.values text met a.finds a.made a.written
  answer_explained c (reducts name h) text met s a = record { parts = said text ∷ []; shows = plain text; said = all_said text }
  answer_explained c (tagged name h) text met s a = record { parts = said text ∷ []; shows = plain text; said = all_said text }
  answer_explained c (stepper name h) text met s a = record { parts = said text ∷ []; shows = plain text; said = all_said text }
  answer_explained c (generate name p size seed) text met s a = record { parts = said text ∷ []; shows = plain text; said = all_said text }
  answer_explained c (check name p h n seed) text met s a = record { parts = said text ∷ []; shows = plain text; said = all_said text }
  answer_explained c (alike fs h k) text met s a = record { parts = said text ∷ []; shows = plain text; said = all_said text }
  answer_explained c (substituted fs h k l) text met s a = record { parts = said text ∷ []; shows = plain text; said = all_said text }
  answer_explained c (test_equal h k) text met s a = record { parts = said text ∷ []; shows = plain text; said = all_said text }
  answer_explained c (test_step name h ks) text met s a = record { parts = said text ∷ []; shows = plain text; said = all_said text }
  answer_explained c (test_run name h ks) text met s a = record { parts = said text ∷ []; shows = plain text; said = all_said text }
  answer_explained c (test_match name p h b) text met s a = record { parts = said text ∷ []; shows = plain text; said = all_said text }
  answer_explained c (test_holds q) text met s a = record { parts = said text ∷ []; shows = plain text; said = all_said text }
  answer_explained c test_results text met s a = record { parts = said text ∷ []; shows = plain text; said = all_said text }

  -- and so can all of them
  answers_explained : (c : Counts) (qs : List Query) (text : List ℕ) (met : Bool) → AllCanBeExplained P qs → AreAnswers P [] c qs text met
      → ExplainsAnswers P c qs text met
  answers_explained c [] text met s no_answers = record { parts = []; explained = none_explained; said = refl }
  answers_explained c (q ∷ qs) text met s (more_answers first others m n a h) =
      let x = answer_explained c q first m s.0 a in
      let y = answers_explained (counts_behind q m c) qs others n s.1 h in
      let here_explained : IsExplained P c q x.parts m =
      record { answer = subst (λ t. IsAnswer P [] c q t m) (sym x.said) a; shows = x.shows } in
      record {
        parts = x.parts ++ y.parts;
        explained = more_explained x.parts y.parts m n here_explained y.explained;
        said = said-append x.parts y.parts ∙ ap (λ t. t ++ said_text y.parts) x.said ∙ ap (λ t. first ++ t) y.said;
      }

-- where the laws of derivations hold, each answer is explained
pub each_answer_is_explained : WhatFollowsHasDerivation → OutputsAreJudged → EachAnswerIsExplained
each_answer_is_explained derived answered P c qs text met e a =
    answers_explained derived answered P e.languages e.valid c qs text met e.queries a
