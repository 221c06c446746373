-- The outputs with which premises are met.
use Rattle.std.proofs.Common.{◌≡◌, List, [], ◌∷◌, refl, sym, subst}
use Rattle.rdx_term.specs.Order.{tree_cmp}
use Rattle.rdx_term.specs.Tree.{Tree}
use Rattle.rdx_lang.specs.Bindings.{Binding, no_names}
use Rattle.rdx_lang.specs.Listing.{IsSeen}
use Rattle.rdx_lang.specs.Members.{In, here, there}
use Rattle.rdx_lang.specs.Order.{binding_cmp}
use Rattle.rdx_lang.specs.Patterns.{Language}
use Rattle.rdx_lang.specs.Programs.{Premise, Program}
use Rattle.rdx_lang.specs.Rules.{Match}
use Rattle.rdx_lang.specs.Templates.{Template}
use Rattle.rdx_lang.proofs.JoinLaws.{unit_left-only}
use Rattle.rdx_lang.proofs.NameLaws.{match-ascends}
use Rattle.rdx_lang.proofs.SeenListings.{seen-ascends}
use Rattle.rdx_eval.specs.Answers.{Answer, value, Then, Gather, Single, Lists, lists}
use Rattle.rdx_eval.specs.Calls.{Calls}
use Rattle.rdx_eval.specs.Extending.{ByPremise, MatchedEach, Meets}
use Rattle.rdx_eval.specs.Heights.{calls_at, height}
use Rattle.rdx_eval.specs.Instantiation.{MakeList, Makes}
use Rattle.rdx_eval.specs.Laws.{IsLedTo}
use Rattle.rdx_eval.proofs.HeldPremises.{meets_lists}
use Rattle.rdx_eval.proofs.OneAnswer.{same_value, once-call, once-outputs, once-make-list, once-meets}
use Rattle.rdx_eval.proofs.Reached.{reached, gathered-sound}
use Rattle.rdx_answer.specs.Explained.{IsMetBy}
use Rattle.rdx_answer.specs.HoldsAnswers.{FindsMet, Values}
use Rattle.rdx_answer.specs.Inside.Explaining.{HasAsked, HasGiven, HasInputs, HasMatched, HasSource, IsAsked, IsGiven}

-- what a premise is asked and answered, where it has no fault
pub found_asked : (P : Program) (q : Premise) (bs : List Binding) → FindsMet P q (value bs) → HasAsked P q
found_asked P q bs f =
    let C : Calls = calls_at P height in
    let k = reached (ByPremise f.language C q no_names) (λ cs. Lists binding_cmp (λ b. In b cs)) bs f.meets in
    let l = reached (Then (MakeList C no_names q.inputs) (C.outputs_of q.judgement)) (MatchedEach f.language q.outputs no_names) k.between k.before in
    let r = reached (MakeList C no_names q.inputs) (C.outputs_of q.judgement) l.between l.before in
    record {
      language = f.language;
      inputs = r.between;
      outputs = l.between;
      asked = record { judgement = f.judgement; named = f.named; known = f.known; inputs = r.before; outputs = r.behind };
    }

pub asked_inputs : (P : Program) (q : Premise) → HasAsked P q → HasInputs P q
asked_inputs P q h = record { inputs = h.inputs; made = h.asked.inputs }

-- what is found is found once
pub found_once : (P : Program) (q : Premise) (bs cs : List Binding) → FindsMet P q (value bs) → FindsMet P q (value cs) → cs ≡ bs
found_once P q bs cs f g =
    let j : f.judgement ≡ g.judgement = let m = f.named in let n = g.named in cc in
    let l : f.language ≡ g.language = let m = f.known in let n = g.known in cc in
    let C : Calls = calls_at P height in
    same_value bs cs (once-meets g.language C (once-call P height) (once-outputs P height) q (value bs) (value cs)
    (subst (λ (L : Language). Meets L C q (value bs)) l f.meets) g.meets)

module _ (P : Program) (q : Premise) (L : Language) (a : Tree) (os : List Tree) (s : IsAsked P q L a os) where
  -- the language is that in which the premise is met
  asked_language : (bs : List Binding) (f : FindsMet P q (value bs)) → f.language ≡ L
  asked_language bs f =
      let j : f.judgement ≡ s.judgement = let m = f.named in let n = s.named in cc in
      let m = f.known in let n = s.known in cc

  -- each binding that meets it is bound by one of the outputs
  pub found_given : (bs : List Binding) (b : Binding) → FindsMet P q (value bs) → In b bs → HasGiven L q.outputs os b
  found_given bs b f i =
      let C : Calls = calls_at P height in
      let m : Meets L C q (value bs) = subst (λ (K : Language). Meets K C q (value bs)) (asked_language bs f) f.meets in
      let k : IsLedTo L C q no_names b = (meets_lists L P height q bs m).sound b i in
      let ea : k.inputs ≡ a =
      same_value a k.inputs (once-make-list C (once-call P height) no_names q.inputs (value a) (value k.inputs) s.inputs k.made) in
      let eo : k.outputs ≡ os =
      same_value os k.outputs (once-outputs P height q.judgement a (value os) (value k.outputs) s.outputs
      (subst (λ (d : Tree). C.outputs_of q.judgement d (value k.outputs)) ea k.answered)) in
      let eb : b ≡ k.found = unit_left-only (seen-ascends (λ c h. match-ascends h) k.matched) k.joined in
      record {
        given = k.given;
        is_given = record {
          among = subst (λ (ts : List Tree). In k.given ts) eo k.among;
          seen = subst (λ (c : Binding). IsSeen (Match L q.outputs k.given) c) (sym eb) k.matched;
        };
      }

  -- where it is met, its pattern matches some of them
  pub found_matched : (b : Binding) (bs : List Binding) → FindsMet P q (value (b ∷ bs)) → HasMatched L q.outputs os
  found_matched b bs f =
      let g = found_given (b ∷ bs) b f (here refl) in
      record { given = g.given; is_matched = record { binding = b; is_given = g.is_given } }

  -- such outputs meet the premise
  pub met_by : (b : Binding) (o : Tree) → IsGiven L q.outputs os b o → IsMetBy P q a o b
  met_by b o g = record { judgement = s.judgement; named = s.named; language = L; known = s.known; inputs = s.inputs; seen = g.seen }

-- the one value
single_value : (R : Answer Tree → Type 0) (ys : List Tree) (v : Tree) → Single R (value ys) → In v ys → R (value v)
single_value R ys v h i =
    let k = reached R (λ y r. r ≡ value (y ∷ [])) ys h in
    let e : ys ≡ k.between ∷ [] = sym (same_value ys (k.between ∷ []) k.behind) in
    by_place k.between k.before (subst (λ (us : List Tree). In v us) e i)
  where
    by_place : (y : Tree) → R (value y) → In v (y ∷ []) → R (value v)
    by_place y r (here e) = subst (λ (u : Tree). R (value u)) (sym e) r
    by_place y r (there j) = elim j [ ]

-- each value is made of one of the bindings
pub value_source : (P : Program) (m : Template) (bs : List Binding) (vs : List Tree) (v : Tree) → Values (calls_at P height) m bs (value vs) → In v vs
    → HasSource P m bs v
value_source P m bs vs v h i =
    let R : Binding → Answer (List Tree) → Type 0 = λ b. Single (Makes (calls_at P height) b m) in
    let k = reached (Gather R bs) (λ ts. Lists tree_cmp (λ u. In u ts)) vs h in
    let g = gathered-sound R bs k.between v k.before (listed v k.between k.behind) in
    record {
      binding = g.from;
      is_source = record { among = g.among; makes = single_value (Makes (calls_at P height) g.from m) g.given v g.gives g.one };
    }
  where
    listed : (u : Tree) (ts : List Tree) → Lists tree_cmp (λ w. In w ts) (value vs) → In v ts
    listed u ts (lists l) = l.sound v i
