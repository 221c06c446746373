-- The forms of the patterns that a look has at hand.
use Rattle.std.proofs.Common.{◌≡◌, ℕ, ◌<◌, ◌≤◌, List, [], length, get_or, refl, sym, ◌∙◌, ap, subst, arith, append-nil, ◌∷◌}
use Rattle.rdx_lang.specs.Patterns.{Pattern, Language, seq}
use Rattle.rdx_lang.specs.PatternView.{Slot, just, repeated, items_of}
use Rattle.rdx_bind.specs.Namings.{Naming, binds, differs, naming_of, under}
use Rattle.rdx_nodes.specs.Nodes.{slots_at, pattern_at, pattern_by, AreEntries, IsForm}
use Rattle.rdx_nodes.specs.declared.node.Entry.{Entry}
use Rattle.rdx_nodes.specs.declared.node.Form.{Form}
use Rattle.rdx_nodes.specs.declared.node.Form.TheVariants as form
use Rattle.rdx_nodes.specs.declared.node.Node.{Node}
use Rattle.rdx_nodes.proofs.NodePatterns.{entries-append, patterns_in-length, pattern_in-form, form-at}
use Rattle.rdx_table.specs.Inside.LookForms.{entries_in, IsFormOf}
use Rattle.rdx_table.specs.Inside.Looks.{IsLook, language_of_look, patterns_of_look}
use Rattle.rdx_table.specs.Inside.Tasks.{slots_in, slots_of}
use Rattle.rdx_table.specs.declared.look.Look.{Look}

-- the form of a node is that of its pattern
pub form_of_node : (l : Look) (n : ℕ) (x : Node) → IsLook l → n < length (patterns_of_look l) → x ≡ get_or l.setting.now.nodes.items n x
    → IsFormOf l n x.form
form_of_node l n x k h e =
    let L : Language = language_of_look l in
    let ps : List Pattern = patterns_of_look l in
    let ns : List Node = l.setting.now.nodes.items in
    let m : length ps ≡ length ns = patterns_in-length ns in
    let b : n < length ns = omega (arith, h, m) in
    record {
      pattern = pattern_in-form L ns n x k.ready.nodes b e;
      right = subst (λ j. IsForm L ps n j x.form) (sym m) (form-at L ns n x k.ready.nodes b e);
      door = λ d. record { number = b; node = x; there = sym e; closed = d };
    }

-- entries of parts that stand before a number are right where there are more patterns
pub entries_more : (ps : List Pattern) (n m : ℕ) (es : List Entry) → n ≤ length ps → n ≤ m → AreEntries ps n es → AreEntries ps m es
entries_more ps n m es h k a = subst (λ (qs : List Pattern). AreEntries qs m es) (append-nil ps) (entries-append ps [] n m es h k a)

-- the entries of a form are right where it is
pub entries_right : (L : Language) (ps : List Pattern) (n m : ℕ) (f : Form) → n ≤ length ps → IsForm L ps n m f
    → AreEntries ps (length ps) (entries_in f)
entries_right L ps n m form.Wild h a = tt
entries_right L ps n m (form.Kind x) h a = tt
entries_right L ps n m (form.Except rs) h a = tt
entries_right L ps n m (form.Prefix r) h a = tt
entries_right L ps n m form.Hole h a = tt
entries_right L ps n m (form.Lit u) h a = tt
entries_right L ps n m (form.Nt x) h a = tt
entries_right L ps n m (form.Named x j) h a = tt
entries_right L ps n m (form.InHole i j) h a = tt
entries_right L ps n m (form.HideHole j) h a = tt
entries_right L ps n m (form.Closed j) h a = tt
entries_right L ps n m (form.Seq es) h a = entries_more ps n (length ps) es.items h h a

-- items are those that a list pattern is made of
pub slots_of-items : (xs : List Slot) → slots_of (items_of xs) ≡ xs
slots_of-items [] = refl
slots_of-items (just p ∷ xs) = ap (λ ys. just p ∷ ys) (slots_of-items xs)
slots_of-items (repeated p n ∷ xs) = ap (λ ys. repeated p n ∷ ys) (slots_of-items xs)

-- so are those of a list pattern's node
pub slots_in-entries : (ps : List Pattern) (es : List Entry) → slots_in (seq (items_of (slots_at ps es))) ≡ slots_at ps es
slots_in-entries ps es = slots_of-items (slots_at ps es)

-- a pattern with a name has none
slots_under : (n : Naming) (q : Pattern) → slots_in (under n q) ≡ []
slots_under (binds x) q = refl
slots_under (differs x) q = refl

-- the items of a form are those of its entries
pub slots_of_form : (ps : List Pattern) (f : Form) → slots_in (pattern_by ps f) ≡ slots_at ps (entries_in f)
slots_of_form ps form.Wild = refl
slots_of_form ps (form.Kind x) = refl
slots_of_form ps (form.Except rs) = refl
slots_of_form ps (form.Prefix r) = refl
slots_of_form ps form.Hole = refl
slots_of_form ps (form.Lit u) = refl
slots_of_form ps (form.Nt x) = refl
slots_of_form ps (form.Named x j) = slots_under (naming_of x) (pattern_at ps j)
slots_of_form ps (form.InHole i j) = refl
slots_of_form ps (form.HideHole j) = refl
slots_of_form ps (form.Closed j) = refl
slots_of_form ps (form.Seq es) = slots_in-entries ps es.items

-- so are those of the form of a pattern that is at hand
pub entries_of_pattern : (l : Look) (n : ℕ) (f : Form) (es : List Entry) → n < length (patterns_of_look l) → IsFormOf l n f → es ≡ entries_in f
    → AreEntries (patterns_of_look l) (length (patterns_of_look l)) es
entries_of_pattern l n f es h a e =
    let ps : List Pattern = patterns_of_look l in
    subst (λ (xs : List Entry). AreEntries ps (length ps) xs) (sym e)
    (entries_right (language_of_look l) ps n (length ps) f (omega (arith, h)) a.right)

-- and the items of such a pattern are those of the entries
pub slots_of_pattern : (l : Look) (n : ℕ) (f : Form) (es : List Entry) → IsFormOf l n f → es ≡ entries_in f
    → slots_in (pattern_at (patterns_of_look l) n) ≡ slots_at (patterns_of_look l) es
slots_of_pattern l n f es a e =
    let ps : List Pattern = patterns_of_look l in ap slots_in a.pattern ∙ slots_of_form ps f ∙ ap (slots_at ps) (sym e)
