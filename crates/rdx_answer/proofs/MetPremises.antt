-- Premises by themselves, as the engine answers them, and what a template makes of the bindings that meet them.
use Rattle.std.proofs.Common.{◌≡◌, ◌⊎◌, inl, inr, ℕ, Bool, List, [], ◌∷◌, ◌++◌, Option, Some, None, refl, sym, subst}
use Rattle.std.specs.Prelude.{◌↔◌}
use Rattle.std.specs.BTreeSet.{insert_key}
use Rattle.rdx_term.proofs.OrderLaws.{tree_cmp-equal}
use Rattle.rdx_term.specs.Model.TotalOrder.{tree_cmp-total}
use Rattle.rdx_term.specs.Order.{tree_cmp}
use Rattle.rdx_term.specs.Tree.{Tree}
use Rattle.rdx_lang.specs.Ascending.{IsAscending}
use Rattle.rdx_lang.specs.Bindings.{Binding}
use Rattle.rdx_lang.specs.Members.{In}
use Rattle.rdx_lang.specs.Patterns.{Language}
use Rattle.rdx_lang.specs.Programs.{Judgement, Premise, Program, language_named, judgement_named}
use Rattle.rdx_lang.specs.Templates.{Template}
use Rattle.rdx_lang.proofs.Collecting.{no_member}
use Rattle.rdx_lang.proofs.Keys.{ascends-inserted, moved_members}
use Rattle.rdx_lang.proofs.MemberLaws.{in-append, append-left, append-right}
use Rattle.rdx_eval.specs.Answers.{Answer, value, fault, Fault, Then, stops, goes, Gather, Lists, lists}
use Rattle.rdx_eval.specs.Extending.{MeetsOver}
use Rattle.rdx_eval.specs.Heights.{calls_at, height}
use Rattle.rdx_eval.proofs.Gathered.{Gathers, gathers-start, gathers-next, gathers-fault, gathers-end}
use Rattle.rdx_answer.specs.HoldsAnswers.{FindsMet, values_of, bindings_faulted, Values, WritesValues, IsValuesAnswer}

-- ---- premises

-- in the language of its judgement a premise is met by these bindings
met_over : (P : Program) (q : Premise) (J : Judgement) (o : Option Language) (found : Answer (List Binding)) → judgement_named P q.judgement ≡ Some J
    → language_named P J.language ≡ o → MeetsOver o (calls_at P height) q found → FindsMet P q found
met_over P q J None found e k m = absurd m
met_over P q J (Some L) found e k m = record { judgement = J; named = e; language = L; known = k; meets = m }

pub finds_met : (P : Program) (q : Premise) (J : Judgement) (found : Answer (List Binding)) → judgement_named P q.judgement ≡ Some J
    → MeetsOver (language_named P J.language) (calls_at P height) q found → FindsMet P q found
finds_met P q J found e m = met_over P q J (language_named P J.language) found e refl m

-- ---- values

-- what is written for the values that a template has of what is found
pub values_answer : (P : Program) (q : Premise) (t : Template) (values : Answer (List Tree)) (text : List ℕ) (met : Bool)
    → Then (FindsMet P q) (Values (calls_at P height) t) values → WritesValues values text met → IsValuesAnswer P q t text met
values_answer P q t values text met (stops {f} h) w = record { found = fault f; finds = h; values = fault f; made = bindings_faulted; written = w }
values_answer P q t values text met (goes {x = bs} h k) w = record { found = value bs; finds = h; values = values; made = values_of k; written = w }

-- of members so far, keys are the listing of what they give; whatever the rest gives, behind that, all give
pub record Listing {A : Type 0} (R : A → Answer (List Tree) → Type 0) (all rest : List A) (keys : List Tree) : Type 0 where
  pub given : List Tree
  pub gathers : Gathers R all rest given
  pub ascending : IsAscending tree_cmp keys
  pub members : (t : Tree) → (In t keys ↔ In t given)

-- the keys with one more, which comes last among the members
one_more : (keys given : List Tree) (t : Tree) → ((u : Tree) → (In u keys ↔ In u given)) → (u : Tree) → (In u (insert_key tree_cmp keys t) ↔ In u (given ++ t ∷ []))
one_more keys given t h u = (to, from)
  where
    before : (v : Tree) → ((In v keys ⊎ In v (t ∷ [])) ↔ In v (given ++ t ∷ []))
    before v = (
      λ s. elim s [ inl i ↦ append-left given (t ∷ []) v ((h v).0 i) | inr i ↦ append-right given (t ∷ []) v i ],
      λ i. elim (in-append given (t ∷ []) v i) [ inl j ↦ inl ((h v).1 j) | inr j ↦ inr j ],
    )

    moved : (In u (insert_key tree_cmp keys t) ⊎ In u []) ↔ In u (given ++ t ∷ [])
    moved = moved_members tree_cmp tree_cmp-total tree_cmp-equal keys (t ∷ []) [] (given ++ t ∷ []) t refl before u

    to : In u (insert_key tree_cmp keys t) → In u (given ++ t ∷ [])
    to i = moved.0 (inl i)

    from : In u (given ++ t ∷ []) → In u (insert_key tree_cmp keys t)
    from i = elim (moved.1 i) [ inl j ↦ j | inr j ↦ no_member j ]

module _ {A : Type 0} (R : A → Answer (List Tree) → Type 0) (all : List A) where
  -- at the start there are none
  pub listing-start : Listing R all all []
  listing-start = record { given = []; gathers = gathers-start R all; ascending = tt; members = λ t. (λ i. i, λ i. i) }

  -- one member more, which gives one value
  pub listing-next : (x : A) (rest xs : List A) (keys keys' : List Tree) (t : Tree) → rest ≡ x ∷ xs → keys' ≡ insert_key tree_cmp keys t
      → R x (value (t ∷ [])) → Listing R all rest keys → Listing R all xs keys'
  listing-next x rest xs keys keys' t e k h l =
      subst (λ (ks : List Tree). Listing R all xs ks) (sym k)
      (record {
        given = l.given ++ t ∷ [];
        gathers = gathers-next R all x rest xs l.given (t ∷ []) (l.given ++ t ∷ []) e refl h l.gathers;
        ascending = ascends-inserted tree_cmp tree_cmp-total keys t l.ascending;
        members = one_more keys l.given t l.members;
      })

  -- the first fault of the rest is the first of all
  pub listing-fault : (x : A) (rest xs : List A) (keys : List Tree) (f : Fault) → rest ≡ x ∷ xs → R x (fault f) → Listing R all rest keys → Gather R all (fault f)
  listing-fault x rest xs keys f e h l = gathers-fault R all x rest xs l.given f e h l.gathers

  -- at the end the keys are what is listed of all
  pub listing-end : (rest : List A) (keys : List Tree) → rest ≡ [] → Listing R all rest keys → Then (Gather R all) (λ ts. Lists tree_cmp (λ u. In u ts)) (value keys)
  listing-end rest keys e l =
      goes (gathers-end R all rest l.given e l.gathers)
      (lists (record { ascending = l.ascending; sound = λ t i. (l.members t).0 i; complete = λ t i. (l.members t).1 i }))
