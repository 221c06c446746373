-- A form is one language at most, or it has one refusal.
use Rattle.std.proofs.Common.{◌≡◌, Option, Some, sym, ◌∙◌, ap, subst}
use Rattle.rdx_lang.specs.Edges.{IsFree, IsFirstRecursive}
use Rattle.rdx_lang.specs.Patterns.{Language}
use Rattle.rdx_lang.specs.declared.pattern.Ref.{Ref}
use Rattle.rdx_lang.proofs.FirstRecursive.{first_recursive-same}
use Rattle.rdx_grammar.specs.Forms.{GrammarForm}
use Rattle.rdx_grammar.specs.Languages.{language_over}
use Rattle.rdx_grammar.specs.Laws.{OneLanguage, OneRefusal, NeverBothLanguage}
use Rattle.rdx_grammar.specs.Refused.{by_check, by_recursion, by_escape, refusal_over, escape_at, recursion_at}
use Rattle.rdx_grammar.specs.Stands.{form_stands}
use Rattle.rdx_patterns.proofs.OneReading.{same_some, not_some}

module _ (base : Language) (g : Option GrammarForm) where
  -- a form whose language is left-recursive is not free of that
  free_or_recursive : (p m : GrammarForm) (x : Ref) → g ≡ Some p → g ≡ Some m → IsFree (language_over base p) → IsFirstRecursive (language_over base m) x → ⊥
  free_or_recursive p m x l n f b =
      let s : p ≡ m = same_some g p m l n in
      subst (λ (o : GrammarForm). IsFree (language_over base o)) s f x b.recursive

pub one_language : OneLanguage
one_language base d g L M a b = a.reads ∙ ap (language_over base) (same_some g a.parts b.parts a.are b.are) ∙ sym b.reads

pub one_refusal : OneRefusal
one_refusal base d g r q (by_check e) (by_check f) = same_some (refusal_over base d g) r q e f
one_refusal base d g r q (by_check e) (by_recursion m y f n b h) = absurd (not_some (refusal_over base d g) r f e)
one_refusal base d g r q (by_check e) (by_escape m f n b h) = absurd (not_some (refusal_over base d g) r f e)
one_refusal base d g r q (by_recursion p x e l a k) (by_check f) = absurd (not_some (refusal_over base d g) q e f)
one_refusal base d g r q (by_recursion p x e l a k) (by_recursion m y f n b h) =
    let s : p ≡ m = same_some g p m l n in
    let t = subst (λ (o : GrammarForm). IsFirstRecursive (language_over base o) x) s a in
    k ∙ ap (recursion_at d) (first_recursive-same (language_over base m) x y t b) ∙ sym h
one_refusal base d g r q (by_recursion p x e l a k) (by_escape m f n b h) = absurd (free_or_recursive base g m p x n l b a)
one_refusal base d g r q (by_escape p e l a k) (by_check f) = absurd (not_some (refusal_over base d g) q e f)
one_refusal base d g r q (by_escape p e l a k) (by_recursion m y f n b h) = absurd (free_or_recursive base g p m y l n a b)
one_refusal base d g r q (by_escape p e l a k) (by_escape m f n b h) = same_some (escape_at (form_stands d g)) r q k h

pub never_both_language : NeverBothLanguage
never_both_language base d g L r a (by_check e) = not_some (refusal_over base d g) r a.passes e
never_both_language base d g L r a (by_recursion m x e n b h) = free_or_recursive base g a.parts m x a.are n (subst IsFree a.reads a.free) b
never_both_language base d g L r a (by_escape m e n b h) = not_some (escape_at (form_stands d g)) r a.asks_nothing h
