-- The parts of answers with derivations.
use Rattle.std.proofs.Common.{◌≡◌, ◌++◌, ◌∙◌, ◌+◌, ◌<◌, ◌≤◌, ℕ, Bool, true, false, List, [], ◌∷◌, Some, map, length, drop, get_or, refl, sym, ap, subst, append_assoc, append-nil, codes}
use Rattle.std.proofs.lemmas.List.{length-map}
use Rattle.std.specs.Prelude.{◌&&◌, decimal}
use Rattle.rdx_term.specs.Text.{tree_text}
use Rattle.rdx_term.specs.Tree.{Tree}
use Rattle.rdx_lang.specs.Patterns.{Pattern}
use Rattle.rdx_lang.specs.Programs.{Premise, Program}
use Rattle.rdx_lang.specs.Templates.{Host, Template}
use Rattle.rdx_lang.proofs.Rest.{rest_at, rest_none}
use Rattle.rdx_lang.specs.Bindings.{Binding}
use Rattle.rdx_eval.specs.Answers.{value, fault, Fault}
use Rattle.rdx_eval.specs.Heights.{calls_at, height}
use Rattle.rdx_deriv.specs.Derivations.{Derivation, Goal}
use Rattle.rdx_deriv.specs.Lines.{derivation_lines}
use Rattle.rdx_why.specs.Explaining.{Explains}
use Rattle.rdx_answer.specs.AnswerText.{counted_text, line_text, lines_text, fault_line}
use Rattle.rdx_answer.specs.Answering.{HostValue, IsAnswer, over_value, over_fault, counts_behind}
use Rattle.rdx_answer.specs.Bound.{Bound}
use Rattle.rdx_answer.specs.Explained.{Part, said, shown, said_text, whole_text, explained_line, head_line, AreSaid, ExplainEach, explain_none, explain_more, ShowMatches, ShowSplits, show_value, show_fault, ExplainsValue, show_values, Shows, AreExplained, none_explained, more_explained, WritesExplained, AllCanBeExplained}
use Rattle.rdx_answer.specs.HoldsAnswers.{FindsMet, Values, values_of, values_found}
use Rattle.rdx_answer.specs.Inside.Appending.{AppendsAnswer}
use Rattle.rdx_answer.specs.Inside.Explaining.{AreParts, Gains, GainsAnswer, GainsBehind, GainsDerivation, is_shown, IsLawful, IsShowableQuery}
use Rattle.rdx_answer.specs.MatchAnswers.{IsMatchesAnswer, IsSplitsAnswer}
use Rattle.rdx_answer.specs.Queries as model
use Rattle.rdx_answer.specs.Queries.{NamesKnown, matches, whether, splits, value as itself, holds, reducts, tagged, stepper, generate, check, alike, substituted, test_equal, test_step, test_run, test_match, test_holds, test_results}
use Rattle.rdx_answer.specs.Tests.{Counts, no_tests}
use Rattle.rdx_answer.specs.Views.{AllNamesKnown, query_of}
use Rattle.rdx_answer.specs.declared.queries.Query.{Query}
use Rattle.rdx_answer.proofs.Upto.{and-assoc, and-true}

-- ---- texts of parts

pub whole-append : (P : Program) (ps qs : List Part) → whole_text P (ps ++ qs) ≡ (whole_text P ps ++ whole_text P qs)
whole-append P [] qs = refl
whole-append P (said s ∷ ps) qs = ap (λ z. s ++ z) (whole-append P ps qs) ∙ sym (append_assoc s (whole_text P ps) (whole_text P qs))
whole-append P (shown d ∷ ps) qs =
    ap (λ z. derivation_lines P 0 d ++ z) (whole-append P ps qs) ∙ sym (append_assoc (derivation_lines P 0 d) (whole_text P ps) (whole_text P qs))

-- what is said in lines with derivations below them
each-said : {A : Type 0} {R : A → Derivation → Type 0} {text : A → List ℕ} (xs : List A) (ps : List Part) → ExplainEach R text xs ps
    → said_text ps ≡ lines_text (map text xs)
each-said [] _ explain_none = refl
each-said {text = text} (x ∷ xs) _ (explain_more {ps = ps} r e) = ap (λ z. line_text (text x) ++ z) (each-said xs ps e)

-- what is said of them with the line above them
head-said : {A : Type 0} {R : A → Derivation → Type 0} {text : A → List ℕ} (what : List ℕ) (xs : List A) (ps : List Part) → ExplainEach R text xs ps
    → said_text (head_line what (length xs) ∷ ps) ≡ counted_text what (map text xs)
head-said {text = text} what xs ps e = λ i. what ++ codes " " ++ decimal (sym (length-map xs text) i) ++ codes "\n" ++ each-said xs ps e i

pub matches_said : (P : Program) (name : List ℕ) (p : Pattern) (t : Tree) (ps : List Part) → ShowMatches P name p t ps
    → IsMatchesAnswer P name p t (said_text ps) true
matches_said P name p t ps s =
    record { found = s.found; finds = s.finds; printed = ap said_text s.parts ∙ head-said (codes "match") s.found s.explained s.each; is_met = refl }

pub splits_said : (P : Program) (name : List ℕ) (p : Pattern) (t : Tree) (ps : List Part) → ShowSplits P name p t ps
    → IsSplitsAnswer P name p t (said_text ps) true
splits_said P name p t ps s =
    record { found = s.found; finds = s.finds; printed = ap said_text s.parts ∙ head-said (codes "splits") s.found s.explained s.each; is_met = refl }

-- values of a template with derivations
pub values_parts : (P : Program) (q : Premise) (m : Template) (bs : List Binding) (vs : List Tree) (ps : List Part) → FindsMet P q (value bs)
    → Values (calls_at P height) m bs (value vs) → ExplainEach (ExplainsValue P q m) tree_text vs ps
    → AreParts P (holds q (Some m)) (head_line (codes "answers") (length vs) ∷ ps) true
values_parts P q m bs vs ps f v e c = record {
  answer = record {
    found = value bs;
    finds = f;
    values = value vs;
    made = values_of v;
    written = values_found (head-said (codes "answers") vs ps e) refl;
  };
  shows = show_values bs vs ps f v e refl;
}

-- ---- one line after the other

-- Of members so far, lines with derivations stand behind a text h; whatever explains the rest, behind that, explains all.
pub record EachUpto {A : Type 0} (P : Program) (R : A → Derivation → Type 0) (text : A → List ℕ) (h start : List ℕ) (all rest : List A) (written : List ℕ)
    : Type 0 where
  pub front : List Part
  pub completes : (ps : List Part) → ExplainEach R text rest ps → ExplainEach R text all (front ++ ps)
  pub gained : written ≡ start ++ (h ++ whole_text P front)

-- all of them are explained
pub record EachGained {A : Type 0} (P : Program) (R : A → Derivation → Type 0) (text : A → List ℕ) (h start : List ℕ) (all : List A) (written : List ℕ)
    : Type 0 where
  pub explained : List Part
  pub each : ExplainEach R text all explained
  pub gained : written ≡ start ++ whole_text P (said h ∷ explained)

module _ {A : Type 0} (P : Program) (R : A → Derivation → Type 0) (text : A → List ℕ) (h start : List ℕ) (all : List A) where
  pub each-start : (written : List ℕ) → written ≡ start ++ h → EachUpto P R text h start all all written
  each-start written e = record { front = []; completes = λ ps x. x; gained = e ∙ ap (λ z. start ++ z) (sym (append-nil h)) }

  pub each-next : (x : A) (rest xs : List A) (before after : List ℕ) → rest ≡ x ∷ xs → GainsBehind P (R x) (line_text (text x)) before after
      → EachUpto P R text h start all rest before → EachUpto P R text h start all xs after
  each-next x rest xs before after e b u =
      let s : List ℕ = line_text (text x) in
      let d : List ℕ = derivation_lines P 0 b.derivation in
      let w : List ℕ = whole_text P u.front in
      let line : List Part = explained_line (text x) b.derivation [] in
      let grown : (w ++ (s ++ d)) ≡ whole_text P (u.front ++ line) = ap (λ z. w ++ (s ++ z)) (sym (append-nil d)) ∙ sym (whole-append P u.front line) in
      record {
        front = u.front ++ line;
        completes = λ ps k.
            subst (λ (qs : List Part). ExplainEach R text all qs) (sym (append_assoc u.front line ps))
            (u.completes (explained_line (text x) b.derivation ps)
            (subst (λ (ys : List A). ExplainEach R text ys (explained_line (text x) b.derivation ps)) (sym e) (explain_more b.explains k)));
        gained = b.gained ∙ ap (λ z. z ++ (s ++ d)) u.gained ∙ append_assoc start (h ++ w) (s ++ d)
            ∙ ap (λ z. start ++ z) (append_assoc h w (s ++ d)) ∙ ap (λ z. start ++ (h ++ z)) grown;
      }

  pub each-end : (rest : List A) (written : List ℕ) → rest ≡ [] → EachUpto P R text h start all rest written → EachGained P R text h start all written
  each-end rest written e u = record {
    explained = u.front;
    each = subst (λ (qs : List Part). ExplainEach R text all qs) (append-nil u.front)
        (u.completes [] (subst (λ (ys : List A). ExplainEach R text ys []) (sym e) explain_none));
    gained = u.gained;
  }

-- ---- answers

-- where no derivation stands in an answer, it is the one part
pub said_shows : (P : Program) (q : model.Query) (ps : List Part) → is_shown q ≡ false → AreSaid ps → Shows P q ps
said_shows P (matches name p h) ps e a = absurd cc
said_shows P (whether name p h) ps e a = a
said_shows P (splits name p h) ps e a = absurd cc
said_shows P (itself h) ps e a = a
said_shows P (holds q t) ps e a = absurd cc
said_shows P (reducts name h) ps e a = a
said_shows P (tagged name h) ps e a = a
said_shows P (stepper name h) ps e a = a
said_shows P (generate name p size seed) ps e a = a
said_shows P (check name p h attempts seed) ps e a = a
said_shows P (alike fs h k) ps e a = a
said_shows P (substituted fs h k l) ps e a = a
said_shows P (test_equal h k) ps e a = a
said_shows P (test_step name h ks) ps e a = a
said_shows P (test_run name h ks) ps e a = a
said_shows P (test_match name p h wanted) ps e a = a
said_shows P (test_holds q) ps e a = a
said_shows P test_results ps e a = a

pub said_gained : (P : Program) (c : Counts) (q : model.Query) (before after : List ℕ) (met : Bool) → is_shown q ≡ false
    → AppendsAnswer P [] c q before after met → GainsAnswer P c q before after met
said_gained P c q before after met e a = record {
  parts = said a.text ∷ [];
  shows = record {
    answer = subst (λ (s : List ℕ). IsAnswer P [] c q s met) (sym (append-nil a.text)) a.answer;
    shows = said_shows P q (said a.text ∷ []) e (a.text, refl);
  };
  gained = a.gained ∙ ap (λ z. before ++ z) (sym (append-nil a.text));
}

-- the line of a fault is the one part
pub fault_gained : (P : Program) (c : Counts) (q : model.Query) (f : Fault) (before after : List ℕ) → after ≡ before ++ fault_line f
    → AreParts P q (said (fault_line f) ∷ []) false → GainsAnswer P c q before after false
fault_gained P c q f before after e a = record {
  parts = said (fault_line f) ∷ [];
  shows = a c;
  gained = e ∙ ap (λ z. before ++ z) (sym (append-nil (fault_line f)));
}

-- parts are appended
pub parts_gained : (P : Program) (c : Counts) (q : model.Query) (before after : List ℕ) → Gains P (λ ps. AreParts P q ps true) before after
    → GainsAnswer P c q before after true
parts_gained P c q before after g = record { parts = g.parts; shows = g.shows c; gained = g.gained }

module _ (P : Program) (name : List ℕ) (p : Pattern) (h : Host) where
  -- matches of what the host expression makes
  pub matches_parts : (t : Tree) (ps : List Part) → HostValue P h (value t) → ShowMatches P name p t ps → AreParts P (matches name p h) ps true
  matches_parts t ps v s c = record { answer = over_value t v (matches_said P name p t ps s); shows = show_value t v s }

  pub matches_fault : (f : Fault) → HostValue P h (fault f) → AreParts P (matches name p h) (said (fault_line f) ∷ []) false
  matches_fault f v c = record { answer = over_fault f v (append-nil (fault_line f)) refl; shows = show_fault f v (fault_line f, refl) }

  -- splits of it
  pub splits_parts : (t : Tree) (ps : List Part) → HostValue P h (value t) → ShowSplits P name p t ps → AreParts P (splits name p h) ps true
  splits_parts t ps v s c = record { answer = over_value t v (splits_said P name p t ps s); shows = show_value t v s }

  pub splits_fault : (f : Fault) → HostValue P h (fault f) → AreParts P (splits name p h) (said (fault_line f) ∷ []) false
  splits_fault f v c = record { answer = over_fault f v (append-nil (fault_line f)) refl; shows = show_fault f v (fault_line f, refl) }

-- ---- queries

-- the parts so far, which those of the rest complete, where so many tests were counted, and whether all so far is met; and what is known of the rest
pub record ExplainedUpto (P : Program) (bs : List Bound) (all rest : List Query) (c : Counts) (text : List ℕ) (met : Bool) : Type 0 where
  pub front : List Part
  pub completes : (ps : List Part) (m : Bool) → AreExplained P c (map (query_of bs) rest) ps m
      → AreExplained P no_tests (map (query_of bs) all) (front ++ ps) (met && m)
  pub written : text ≡ whole_text P front
  pub named : AllNamesKnown P (map (query_of bs) rest)
  pub shown : AllCanBeExplained P (map (query_of bs) rest)

module _ (P : Program) (bs : List Bound) (all : List Query) where
  -- at the start there are none
  pub explained_start : (text : List ℕ) → text ≡ [] → AllNamesKnown P (map (query_of bs) all) → AllCanBeExplained P (map (query_of bs) all)
      → ExplainedUpto P bs all all no_tests text true
  explained_start text e n s = record { front = []; completes = λ ps m k. k; written = e; named = n; shown = s }

  -- the next query can be explained
  pub explained_named : (i : ℕ) (q : Query) (c : Counts) (text : List ℕ) (met : Bool) → i < length all → q ≡ get_or all i q → IsLawful P
      → ExplainedUpto P bs all (drop i all) c text met → IsShowableQuery P (query_of bs q)
  explained_named i q c text met h e l u = record {
    lawful = l;
    named = (subst (AllNamesKnown P) (rest_at (query_of bs) all i q h e) u.named).0;
    shown = (subst (AllCanBeExplained P) (rest_at (query_of bs) all i q h e) u.shown).0;
  }

  -- one answer more
  pub explained_next : (i : ℕ) (q : Query) (c : Counts) (before after : List ℕ) (met m : Bool) → i < length all → q ≡ get_or all i q
      → GainsAnswer P c (query_of bs q) before after m → ExplainedUpto P bs all (drop i all) c before met
      → ExplainedUpto P bs all (drop (i + 1) all) (counts_behind (query_of bs q) m c) after (met && m)
  explained_next i q c before after met m h e a u = record {
    front = u.front ++ a.parts;
    completes = λ ps n r.
        subst (λ (b : Bool). AreExplained P no_tests (map (query_of bs) all) ((u.front ++ a.parts) ++ ps) b) (sym (and-assoc met m n))
        (subst (λ (qs : List Part). AreExplained P no_tests (map (query_of bs) all) qs (met && (m && n))) (sym (append_assoc u.front a.parts ps))
        (u.completes (a.parts ++ ps) (m && n)
        (subst (λ qs. AreExplained P c qs (a.parts ++ ps) (m && n)) (sym (rest_at (query_of bs) all i q h e)) (more_explained a.parts ps m n a.shows r))));
    written = a.gained ∙ ap (λ z. z ++ whole_text P a.parts) u.written ∙ sym (whole-append P u.front a.parts);
    named = (subst (AllNamesKnown P) (rest_at (query_of bs) all i q h e) u.named).1;
    shown = (subst (AllCanBeExplained P) (rest_at (query_of bs) all i q h e) u.shown).1;
  }

  -- all queries are answered
  pub explained_end : (i : ℕ) (c : Counts) (text : List ℕ) (met : Bool) → length all ≤ i → ExplainedUpto P bs all (drop i all) c text met
      → WritesExplained P no_tests (map (query_of bs) all) text met
  explained_end i c text met e u = record {
    parts = u.front;
    explained =
        subst (λ (b : Bool). AreExplained P no_tests (map (query_of bs) all) u.front b) (and-true met)
        (subst (λ (qs : List Part). AreExplained P no_tests (map (query_of bs) all) qs (met && true)) (append-nil u.front)
        (u.completes [] true (subst (λ qs. AreExplained P c qs [] true) (sym (rest_none (query_of bs) all i e)) none_explained)));
    printed = u.written;
  }

-- ---- derivations behind lines

-- behind a text stands a derivation
pub gained_behind : (P : Program) (g : Goal) (R : Derivation → Type 0) (s before between after : List ℕ) → between ≡ before ++ s
    → ((d : Derivation) → Explains P g d → R d) → GainsDerivation P g between after → GainsBehind P R s before after
gained_behind P g R s before between after e f d = record {
  derivation = d.derivation;
  explains = f d.derivation d.explains;
  gained = d.gained ∙ ap (λ z. z ++ derivation_lines P 0 d.derivation) e ∙ append_assoc before s (derivation_lines P 0 d.derivation);
}
