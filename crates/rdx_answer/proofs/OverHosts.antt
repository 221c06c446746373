-- Answers over what several host expressions make.
use Rattle.std.proofs.Common.{◌≡◌, ◌∙◌, ℕ, ◌+◌, ◌<◌, Bool, List, [], ◌∷◌, ◌++◌, length, get_or, drop, map, refl, ap}
use Rattle.std.proofs.lemmas.List.{map-append}
use Rattle.std.specs.Prelude.{Result, Ok, Err}
use Rattle.rdx_term.specs.Tree.{Tree}
use Rattle.rdx_term.specs.View.{tree_of}
use Rattle.rdx_term.specs.declared.term.Term.{Term}
use Rattle.rdx_lang.specs.Programs.{Program}
use Rattle.rdx_lang.specs.TemplateView.{host_of}
use Rattle.rdx_lang.specs.Templates.{Host}
use Rattle.rdx_lang.specs.declared.template.HostExpr.{HostExpr}
use Rattle.rdx_eval.specs.Answers.{value, goes, Single}
use Rattle.rdx_eval.specs.declared.fault.EvalFault.{EvalFault}
use Rattle.rdx_eval.specs.declared.fault.EvalFault.TheVariants.{Named, NoMemory}
use Rattle.rdx_eval.proofs.Gathered.{Gathers}
use Rattle.rdx_eval.proofs.GatheredLoops.{gather-next}
use Rattle.rdx_answer.specs.Answering.{HostValue, HostValues, OverEach, over_values}
use Rattle.rdx_answer.specs.Inside.Appending.{Tries}

-- they make these terms
pub each_tried : (P : Program) (hs : List Host) (W : List Tree → List ℕ → Bool → Type 0) (ts : List Tree) (before after : List ℕ)
    (r : Result Bool EvalFault) → HostValues P hs (value ts) → Tries (W ts) before after r → Tries (OverEach P hs W) before after r
each_tried P hs W ts before after (Ok met) v a = record { text = a.text; answer = over_values ts v a.answer; gained = a.gained }
each_tried P hs W ts before after (Err (Named f)) v a = (a.0, over_values ts v a.1)
each_tried P hs W ts before after (Err NoMemory) v a = tt

-- the next one makes a term
pub next_made : (P : Program) (hs : List HostExpr) (i : ℕ) (found found' : List Term) (h : HostExpr) (t : Term)
    → i < length hs → h ≡ get_or hs i h → found' ≡ found ++ t ∷ [] → HostValue P (host_of h) (value (tree_of t))
    → Gathers (λ k. Single (HostValue P k)) (map host_of hs) (map host_of (drop i hs)) (map tree_of found)
    → Gathers (λ k. Single (HostValue P k)) (map host_of hs) (map host_of (drop (i + 1) hs)) (map tree_of found')
next_made P hs i found found' h t l e d v g =
    gather-next host_of (λ k. Single (HostValue P k)) hs i (map tree_of found) g h l e (tree_of t ∷ []) (map tree_of found')
    (ap (map tree_of) d ∙ map-append tree_of found (t ∷ [])) (goes v refl)
