-- Without its derivations, what is written is the text of a run.
use Rattle.std.proofs.Common.{◌≡◌, ◌++◌, ◌∙◌, List, [], ◌∷◌, refl, ap, subst, sym, append_assoc}
use Rattle.std.specs.Prelude.{◌&&◌}
use Rattle.rdx_answer.specs.Answering.{AreAnswers, no_answers, more_answers, counts_behind}
use Rattle.rdx_answer.specs.Explained.{Part, said, shown, said_text, none_explained, more_explained}
use Rattle.rdx_answer.specs.Laws.{WhatIsExplainedIsAnswered}

-- what is said in parts that stand behind others
pub said-append : (ps qs : List Part) → said_text (ps ++ qs) ≡ said_text ps ++ said_text qs
said-append [] qs = refl
said-append (said s ∷ ps) qs = ap (λ t. s ++ t) (said-append ps qs) ∙ sym (append_assoc s (said_text ps) (said_text qs))
said-append (shown d ∷ ps) qs = said-append ps qs

-- the parts of answers with derivations say the text of a run
pub explained-answers : WhatIsExplainedIsAnswered
explained-answers P c [] ps met none_explained = no_answers
explained-answers P c (q ∷ qs) ps met (more_explained first all m n e h) =
    subst (λ t. AreAnswers P [] c (q ∷ qs) t (m && n)) (sym (said-append first all))
    (more_answers (said_text first) (said_text all) m n e.answer (explained-answers P (counts_behind q m c) qs all n h))
