-- A text is read as the one list, or the one inquiry, that has it.
use Rattle.std.proofs.Common.{◌≡◌, ℕ, List, [], ◌∷◌, ◌++◌, get_or, refl, sym, ap, ◌∙◌, arith, append-nil, append_assoc, subst, ◌+◌, length, inl, inr}
use Rattle.std.specs.Prelude.{flat_map, ◌==◌, false}
use Rattle.std.specs.List.{AllByRecursion}
use Rattle.count_core.specs.declared.lit.Lit.{Lit}
use Rattle.count_core.specs.declared.count_rule.CountRule.{CountRule}
use Rattle.count_core.specs.declared.step.Step.{Step}
use Rattle.list_texts.specs.ListTexts.{FitsRule, FitsStep, FitsQuestion, atoms_line, rule_line, step_line, question_line}
use Rattle.list_texts.specs.ListTexts.{text_with, IsTextWith, IsOnlyWith, IsNoTextWith, NoLineOf, IsWrongBehind, IsFirstWrongWith}
use Rattle.list_texts.specs.ListTexts.{IsListText, IsOnlyListOf, IsInquiryText, IsOnlyInquiryOf}
use Rattle.list_texts.specs.Fronts.{AllInFront, NoneInFront, EndsLine, AreAtomsAt, NoAtomsAt, NoRuleAt, NoStepAt, NoQuestionAt, AreRulesAt}
use Rattle.list_texts.proofs.Fronts.{IsOne, are_all, all_of}
use Rattle.list_texts.proofs.LineFronts.{one_atoms, one_rule, one_step, one_question}

any_end : {A : Type 0} (text_of : A → List ℕ) (x : A) (rest : List ℕ) → EndsLine (text_of x ++ rest)
any_end text_of x rest = tt

-- something is left where the test of emptiness says no
pub is_left : (xs : List ℕ) → false ≡ (length xs == 0) → xs ≡ [] → ⊥
is_left [] e none = cc
is_left (x ∷ xs) e none = cc

-- what follows the number of atoms in a text
pub record IsRead {A : Type 0} (line_of : A → List ℕ) (Fits : A → Type 0) (text : List ℕ) (atoms : ℕ) (rules : List CountRule) (items : List A) (rest : List ℕ) : Type 0 where
  pub behind : List ℕ
  pub after : List ℕ
  pub atoms_are : AreAtomsAt text atoms behind
  pub rules_are : AreRulesAt behind rules after
  pub items_are : AllInFront line_of Fits EndsLine after items rest

module _ {A : Type 0} (line_of : A → List ℕ) (Fits : A → Type 0) where
  atoms_of_text : (text : List ℕ) (atoms : ℕ) (rules : List CountRule) (items : List A) → IsTextWith line_of Fits atoms rules items text → AreAtomsAt text atoms (flat_map rule_line rules ++ flat_map line_of items)
  atoms_of_text text atoms rules items h = record { whole = h.whole; fits = h.atoms_fit; ends = tt }

  pub no_text : (text : List ℕ) → NoAtomsAt text → IsNoTextWith line_of Fits text
  no_text text none atoms rules items h = none atoms (flat_map rule_line rules ++ flat_map line_of items) (atoms_of_text text atoms rules items h)

  pub first_wrong : (text : List ℕ) → NoAtomsAt text → IsFirstWrongWith line_of Fits text 1
  first_wrong text none = inl (refl, λ atoms rest fits e. none atoms rest (record { whole = e; fits = fits; ends = tt }))

  module _ (text : List ℕ) (atoms : ℕ) (rules : List CountRule) (items : List A) (rest : List ℕ) (read : IsRead line_of Fits text atoms rules items rest) where
    pub text_read : rest ≡ [] → IsTextWith line_of Fits atoms rules items text
    text_read none = record {
      atoms_fit = read.atoms_are.fits;
      rules_fit = read.rules_are.some.fits;
      items_fit = read.items_are.some.fits;
      whole = read.atoms_are.whole ∙ ap (λ l. atoms_line atoms ++ l)
          (read.rules_are.some.whole ∙ ap (λ l. flat_map rule_line rules ++ l) (read.items_are.some.whole ∙ ap (λ l. flat_map line_of items ++ l) none ∙ append-nil (flat_map line_of items)));
    }

    -- ---- the first line that is wrong

    no_rule_left : items ≡ [] → NoLineOf rule_line FitsRule rest
    no_rule_left none rule more fits e =
        let all : flat_map line_of items ++ rest ≡ rest = ap (λ xs. flat_map line_of xs ++ rest) none in
        read.rules_are.last rule more (record { whole = read.items_are.some.whole ∙ all ∙ e; fits = fits; ends = tt })

    wrong_behind : (rest ≡ [] → ⊥) → IsWrongBehind line_of Fits text (length rules + length items + 2)
    wrong_behind some = record {
      atoms = atoms;
      rules = rules;
      items = items;
      before = text_with line_of atoms rules items;
      rest = rest;
      is_text = record { atoms_fit = read.atoms_are.fits; rules_fit = read.rules_are.some.fits; items_fit = read.items_are.some.fits; whole = refl };
      whole = read.atoms_are.whole ∙ ap (λ l. atoms_line atoms ++ l) (read.rules_are.some.whole ∙ ap (λ l. flat_map rule_line rules ++ l) read.items_are.some.whole ∙ sym (append_assoc (flat_map rule_line rules) (flat_map line_of items) rest))
          ∙ sym (append_assoc (atoms_line atoms) (flat_map rule_line rules ++ flat_map line_of items) rest);
      number = refl;
      left = some;
      no_item = λ x more fits e. read.items_are.last x more (record { whole = e; fits = fits; ends = tt });
      no_rule = no_rule_left;
    }

    pub later_wrong : (line : ℕ) → line ≡ length rules + length items + 2 → (rest ≡ [] → ⊥) → IsFirstWrongWith line_of Fits text line
    later_wrong line is some = inr (subst (IsWrongBehind line_of Fits text) (sym is) (wrong_behind some))

  -- ---- rules end where items begin, and items where nothing is left

  module _ (one : IsOne line_of Fits EndsLine) (rules_end : (xs : List A) → NoRuleAt (flat_map line_of xs)) (items_end : NoneInFront line_of Fits EndsLine []) where
    same_rules : (text : List ℕ) (rules others : List CountRule) (items : List A) (rest : List ℕ) → text ≡ flat_map rule_line rules ++ flat_map line_of items → AreRulesAt text others rest
        → AllByRecursion FitsRule rules → (rules ≡ others) × (flat_map line_of items ≡ rest)
    same_rules text rules others items rest e h fits = are_all rule_line FitsRule EndsLine one_rule (any_end rule_line) text rules others (flat_map line_of items) rest fits tt (rules_end items) e h

    same_lines : (text : List ℕ) (items others : List A) (rest : List ℕ) → text ≡ flat_map line_of items → AllInFront line_of Fits EndsLine text others rest
        → AllByRecursion Fits items → (items ≡ others) × ([] ≡ rest)
    same_lines text items others rest e h fits = are_all line_of Fits EndsLine one (any_end line_of) text items others [] rest fits tt items_end (e ∙ sym (append-nil (flat_map line_of items))) h

    module _ (text : List ℕ) (atoms : ℕ) (rules : List CountRule) (items : List A) (rest : List ℕ) (read : IsRead line_of Fits text atoms rules items rest) where
      -- what has that text is what was read, and nothing is left
      all_alone : (others : ℕ) (more : List CountRule) (further : List A) → IsTextWith line_of Fits others more further text → (others ≡ atoms) × (more ≡ rules) × (further ≡ items) × ([] ≡ rest)
      all_alone others more further h =
          let first = one_atoms text others atoms (flat_map rule_line more ++ flat_map line_of further) read.behind (atoms_of_text text others more further h) read.atoms_are in
          let second = same_rules read.behind more rules further read.after (sym first.1) read.rules_are h.rules_fit in
          let third = same_lines read.after further items rest (sym second.1) read.items_are h.items_fit in
          (first.0, second.0, third.0, third.1)

      read_alone : IsOnlyWith line_of Fits text atoms rules items
      read_alone others more further h = let same = all_alone others more further h in (same.0, same.1, same.2)

      no_text_left : (rest ≡ [] → ⊥) → IsNoTextWith line_of Fits text
      no_text_left some others more further h = some (sym (all_alone others more further h).3)

    -- what a text is read as
    is_read : (text : List ℕ) (atoms : ℕ) (rules : List CountRule) (items : List A) → IsTextWith line_of Fits atoms rules items text → IsRead line_of Fits text atoms rules items []
    is_read text atoms rules items h = record {
      behind = flat_map rule_line rules ++ flat_map line_of items;
      after = flat_map line_of items;
      atoms_are = atoms_of_text text atoms rules items h;
      rules_are = all_of rule_line FitsRule EndsLine one_rule (any_end rule_line) rules (flat_map line_of items) h.rules_fit tt (rules_end items);
      items_are = subst (λ l. AllInFront line_of Fits EndsLine l items []) (append-nil (flat_map line_of items)) (all_of line_of Fits EndsLine one (any_end line_of) items [] h.items_fit tt items_end);
    }

    -- what the bytes are the text of is the only such
    one_text : (text : List ℕ) (atoms : ℕ) (rules : List CountRule) (items : List A) → IsTextWith line_of Fits atoms rules items text → IsOnlyWith line_of Fits text atoms rules items
    one_text text atoms rules items h = read_alone text atoms rules items [] (is_read text atoms rules items h)

-- ---- lists

no_rule_at_steps : (steps : List Step) → NoRuleAt (flat_map step_line steps)
no_rule_at_steps [] rule rest h = let e : ◌≡◌ {A = ℕ} 0 114 = ap (λ l. get_or l 0 0) h.whole in omega arith
no_rule_at_steps (step ∷ steps) rule rest h = let e : ◌≡◌ {A = ℕ} 115 114 = ap (λ l. get_or l 0 0) h.whole in omega arith

no_step_at_end : NoStepAt []
no_step_at_end step rest h = let e : ◌≡◌ {A = ℕ} 0 115 = ap (λ l. get_or l 0 0) h.whole in omega arith

pub list_alone : (text : List ℕ) (atoms : ℕ) (rules : List CountRule) (steps : List Step) (rest : List ℕ) → IsRead step_line FitsStep text atoms rules steps rest → IsOnlyListOf text atoms rules steps
list_alone = read_alone step_line FitsStep one_step no_rule_at_steps no_step_at_end

pub no_list_left : (text : List ℕ) (atoms : ℕ) (rules : List CountRule) (steps : List Step) (rest : List ℕ) → IsRead step_line FitsStep text atoms rules steps rest → (rest ≡ [] → ⊥) → IsNoTextWith step_line FitsStep text
no_list_left = no_text_left step_line FitsStep one_step no_rule_at_steps no_step_at_end

-- what the bytes are the text of is the only such list
pub one_list : (text : List ℕ) (atoms : ℕ) (rules : List CountRule) (steps : List Step) → IsListText atoms rules steps text → IsOnlyListOf text atoms rules steps
one_list = one_text step_line FitsStep one_step no_rule_at_steps no_step_at_end

-- ---- inquiries

no_rule_at_questions : (questions : List (List Lit)) → NoRuleAt (flat_map question_line questions)
no_rule_at_questions [] rule rest h = let e : ◌≡◌ {A = ℕ} 0 114 = ap (λ l. get_or l 0 0) h.whole in omega arith
no_rule_at_questions (question ∷ questions) rule rest h = let e : ◌≡◌ {A = ℕ} 113 114 = ap (λ l. get_or l 0 0) h.whole in omega arith

no_question_at_end : NoQuestionAt []
no_question_at_end question rest h = let e : ◌≡◌ {A = ℕ} 0 113 = ap (λ l. get_or l 0 0) h.whole in omega arith

pub inquiry_alone : (text : List ℕ) (atoms : ℕ) (rules : List CountRule) (questions : List (List Lit)) (rest : List ℕ) → IsRead question_line FitsQuestion text atoms rules questions rest → IsOnlyInquiryOf text atoms rules questions
inquiry_alone = read_alone question_line FitsQuestion one_question no_rule_at_questions no_question_at_end

pub no_inquiry_left : (text : List ℕ) (atoms : ℕ) (rules : List CountRule) (questions : List (List Lit)) (rest : List ℕ) → IsRead question_line FitsQuestion text atoms rules questions rest → (rest ≡ [] → ⊥) → IsNoTextWith question_line FitsQuestion text
no_inquiry_left = no_text_left question_line FitsQuestion one_question no_rule_at_questions no_question_at_end

-- what the bytes are the text of is the only such inquiry
pub one_inquiry : (text : List ℕ) (atoms : ℕ) (rules : List CountRule) (questions : List (List Lit)) → IsInquiryText atoms rules questions text → IsOnlyInquiryOf text atoms rules questions
one_inquiry = one_text question_line FitsQuestion one_question no_rule_at_questions no_question_at_end
