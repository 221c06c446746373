-- What values of the code stand for: extras, arguments, branches, outlines, and what stands in a form.
use Rattle.std.specs.Prelude.{Bool, true, false, not, [], List, Option, map, option_map}
use Rattle.rdx_sexp.specs.Sexp.{Sexp}
use Rattle.rdx_patterns.specs.OccurrenceView.{occurrences_of}
use Rattle.rdx_parts.specs.ExtraForms as model
use Rattle.rdx_parts.specs.Arguments as arguments
use Rattle.rdx_parts.specs.ExtraForms.{such_that, provided, confirmed, holding, freshly, name, no_extra, of_case, of_clause, of_rule}
use Rattle.rdx_parts.specs.Headed as headed
use Rattle.rdx_parts.specs.Outlines as outlines
use Rattle.rdx_parts.specs.Stands.{Stand, misshaped, function, judgement, asked, arrow, pattern, template, condition, plain, misfit, fresh, named, repeated}
use Rattle.rdx_parts.specs.declared.arguments.Arguments.{Arguments}
use Rattle.rdx_parts.specs.declared.arguments.Headed.{Headed}
use Rattle.rdx_parts.specs.declared.extras.ExtraForm.{ExtraForm}
use Rattle.rdx_parts.specs.declared.extras.ExtraForm.TheVariants as extras
use Rattle.rdx_parts.specs.declared.extras.ExtraPlace.{ExtraPlace}
use Rattle.rdx_parts.specs.declared.extras.ExtraPlace.TheVariants.{OfCase, OfClause, OfRule}
use Rattle.rdx_parts.specs.declared.branches.Branch.{Branch}
use Rattle.rdx_parts.specs.declared.branches.Outline.{Outline}
use Rattle.rdx_parts.specs.declared.branches.Question.{Question}
use Rattle.rdx_parts.specs.declared.branches.RuleBranch.{RuleBranch}
use Rattle.rdx_parts.specs.declared.branches.Takes.{Takes}
use Rattle.rdx_parts.specs.declared.branches.Takes.TheVariants as takes
use Rattle.rdx_parts.specs.declared.stands.checks.Misfit.{Misfit}
use Rattle.rdx_parts.specs.declared.stands.collecting.Stand as code_stand
use Rattle.rdx_parts.specs.declared.stands.collecting.Stand.TheVariants as stands

-- the extra that one of the code stands for
abbrev pub extra_form_of : ExtraForm → model.ExtraForm
extra_form_of (extras.SuchThat p t) = such_that p.now t.now
extra_form_of (extras.Provided h) = provided h.now
extra_form_of (extras.Confirmed t) = confirmed t.now
extra_form_of (extras.Holding d) = holding d.now
extra_form_of (extras.Freshly ds) = freshly ds.now
extra_form_of extras.Name = name
extra_form_of extras.NoExtra = no_extra

-- the place
abbrev pub place_of : ExtraPlace → model.ExtraPlace
place_of OfCase = of_case
place_of OfClause = of_clause
place_of OfRule = of_rule

-- the list headed by a symbol
abbrev pub headed_of : Headed → headed.Headed
headed_of h = record { head = h.head.now; arguments = h.arguments.now }

-- the flag of an argument, where patterns stand at inputs or at outputs
abbrev pub flag_at : Bool → Bool → Bool
flag_at true b = b
flag_at false b = not b

-- the arguments
abbrev pub arguments_of : Arguments → arguments.Arguments
arguments_of a = record { flags = option_map (λ m. map (flag_at a.at_inputs) m.now) a.mode; items = a.items.now }

-- what is taken
abbrev pub takes_of : Takes → outlines.Takes
takes_of (takes.One p) = outlines.one p.now
takes_of (takes.Several ds) = outlines.several ds.now

-- the branch
abbrev pub branch_of : Branch → outlines.Branch
branch_of b = record { takes = takes_of b.takes; place = place_of b.place; extras = b.extras.now; result = b.result.now }

-- the rule of a judgement
abbrev pub rule_branch_of : RuleBranch → outlines.RuleBranch
rule_branch_of r = record { arguments = arguments_of r.arguments; premises = r.premises.now; is_last = r.is_last }

-- the premise by itself
abbrev pub question_of : Question → outlines.Question
question_of q = record { premise = q.premise.now; result = option_map (λ d. d.now) q.result }

-- the outline
abbrev pub outline_of : Outline → outlines.Outline
outline_of o = record {
  alone = map (λ d. d.now) o.alone.items;
  branches = map branch_of o.branches.items;
  rules = map rule_branch_of o.rules.items;
  questions = map question_of o.questions.items;
}

-- what stands in a form, without what is bound before it
abbrev pub stand_of : code_stand.Stand → Stand
stand_of (stands.Misshaped d) = misshaped d.now
stand_of (stands.Function d) = function d.now
stand_of (stands.Judgement d) = judgement d.now
stand_of (stands.Asked d) = asked d.now
stand_of (stands.Arrow d) = arrow d.now
stand_of (stands.Pattern found) = pattern [] (occurrences_of found.items)
stand_of (stands.Template d) = template [] d.now
stand_of (stands.Condition d) = condition [] d.now
stand_of (stands.Plain found) = plain (occurrences_of found.items)
stand_of (stands.Misfit d j) = misfit d.now (option_map (λ j. j.now) j)
stand_of (stands.Fresh d) = fresh [] d.now
stand_of (stands.Named again d) = named again d.now
stand_of (stands.Repeated d) = repeated d.now

-- and what several are, in their order
abbrev pub stands_of : List code_stand.Stand → List Stand
stands_of ss = map stand_of ss

-- what does not fit a mode, and the name of the judgement, where there is one
abbrev pub misfit_of : Misfit → Sexp × Option Sexp
misfit_of m = (m.datum.now, option_map (λ j. j.now) m.judgement)
