use Rattle.std.proofs.Common.{Bor, ℤ, ◌≡◌, ℕ, List, map, length, take, Some, None, Ok, Err, Result, MatchResult, sym, refl, ap, ◌∙◌, subst, rules}
use Rattle.std.specs.Result.{IsErrAnd}
use Rattle.std.proofs.lemmas.Result.{err_from_is_err_and}
use Rattle.brackets.specs.Grammar.{Field}
use Rattle.words.specs.declared.faults.WordFault.{WordFault}
use Rattle.words.specs.declared.faults.WordFault.TheVariants.{Field as Misnamed, Number as Malformed}
use Rattle.words.specs.declared.reading.Kind.{Kind}
use Rattle.words.specs.Heads.{head_text, field_names}
use Rattle.words.specs.Layer.{names_of}
use Rattle.words.specs.Walk.{FieldsAt, all_named, field_value, first_malformed}
use Rattle.words.specs.Written.{Answers}
use Rattle.words.proofs.Once.{answers}
use Rattle.words.proofs.Joining.{fields_at, count_is, as_many}
use Rattle.words.proofs.Naming.{misfit, all_right}
use Rattle.words.proofs.Soundness.{first_unsound, all_sound, values_are}
use Rattle.words.proofs.reading.fields.Goals as goal

-- what went through a `map_err`, from what came out
abbrev Mapped : {T : Type 0} → Result T ℕ → (ℕ → WordFault) → Result T WordFault → Type 0
Mapped r f q = MatchResult r (λ x. q ≡ Ok x) (λ e. IsErrAnd q (λ y. y ≡ f e))

mapped_err : {T : Type 0} (r : Result T ℕ) (f : ℕ → WordFault) (q : Result T WordFault) (w : WordFault) → Mapped r f q → q ≡ Err w → (e : ℕ) × (r ≡ Err e) × (w ≡ f e)
mapped_err (Ok x) f q w m h = absurd (cc)
mapped_err (Err e) f (Ok x) w m h = absurd m
mapped_err (Err e) f (Err y) w m h = (e, refl, cc)

mapped_ok : {T : Type 0} (r : Result T ℕ) (f : ℕ → WordFault) (q : Result T WordFault) (x : T) → Mapped r f q → q ≡ Ok x → r ≡ Ok x
mapped_ok (Ok y) f q x m h = cc
mapped_ok (Err e) f (Ok y) x m h = absurd m
mapped_ok (Err e) f (Err y) x m h = absurd (cc)

-- the answer on names, in the words of the table
told : (r : Result ℕ ℕ) (ns ms : List (List ℕ)) (fields : List Field) (at s : ℕ) → ns ≡ ms → at ≡ s → r ≡ all_named ns fields at → r ≡ all_named ms fields s
told r ns ms fields at s e f h = h ∙ (λ i. all_named (e i) fields (f i))

-- what the fields are where their names are right
right : (line : List ℕ) (names : List (Bor (List ℕ))) (k : Kind) (r : Result ℕ ℕ) (end start : ℕ) → map (λ x. x.now) names ≡ field_names k → ((fs : List Field) → FieldsAt line start fs → r ≡ all_named (map (λ x. x.now) names) fs start) → r ≡ Ok end → (fs : List Field) → FieldsAt line start fs → (names_of fs ≡ field_names k) × (length fs ≡ length names)
right line names k r end start e walk ok fs h =
    let n : names_of fs ≡ field_names k = all_right _ fs start end (sym ok ∙ walk fs h) ∙ e in
    (n, as_many fs (field_names k) n ∙ sym (count_is names (field_names k) e))

-- what `values` says of a result
abbrev Read : List Field → ℕ → ℕ → Result (List ℤ) ℕ → Type 0
Read fs start count r = MatchResult r (λ vs. (first_malformed fs start ≡ None) × (take count vs ≡ map field_value fs)) (λ col. first_malformed fs start ≡ Some col)

pub returns-in_err-map_err : goal.returns-in_err-map_err
returns-in_err-map_err c =
    let p = err_from_is_err_and c.from_residual.result c.from_residual.ensures.1 in
    let named : Mapped c.all_named.result Misnamed c.map_err.result = search rules in
    let m = mapped_err c.all_named.result Misnamed c.map_err.result c.in_err-map_err.field-0.0 named c.in_err-map_err.was in
    let e : c.from_residual.result ≡ Err (Misnamed m.0) = p.1 ∙ ap Err (p.2 ∙ m.2) in
    subst (Answers c.args.line.bytes.now) (sym e) (answers c.args.line.bytes.now (Err (Misnamed m.0)) (
      c.requires.shaped,
      λ head fields h.
          let q = c.requires.headed head fields h in
          (c.args.kind, q.0, misfit (field_names c.args.kind) head fields m.0 (told _ _ _ fields _ _ c.names-expected.ensures q.1 (sym m.1 ∙ c.all_named.ensures fields (fields_at c.args.line.bytes.now head fields c.args.start h q.1)))),
    ))

pub values-requires-clause-some : goal.values-requires-clause-some
values-requires-clause-some c =
    let b = c.requires.shaped in
    let f = fields_at c.args.line.bytes.now b.2.0 b.2.1 c.args.start b.2.2 (c.requires.headed b.2.0 b.2.1 b.2.2).1 in
    let named : Mapped c.all_named.result Misnamed c.map_err.result = search rules in
    let ok = mapped_ok c.all_named.result Misnamed c.map_err.result c.in_ok-map_err.field-0 named c.in_ok-map_err.was in
    (b.2.1, f, (right c.args.line.bytes.now c.names-expected.result.now c.args.kind _ _ c.args.start c.names-expected.ensures c.all_named.ensures ok b.2.1 f).1)

pub returns-in_err-vs : goal.returns-in_err-vs
returns-in_err-vs c =
    let p = err_from_is_err_and c.from_residual-in_err-vs.result c.from_residual-in_err-vs.ensures.1 in
    let named : Mapped c.all_named.result Misnamed c.map_err.result = search rules in
    let ok = mapped_ok c.all_named.result Misnamed c.map_err.result c.in_ok-map_err.field-0 named c.in_ok-map_err.was in
    let read : Mapped c.values.result Malformed c.map_err-2.result = search rules in
    let m = mapped_err c.values.result Malformed c.map_err-2.result c.in_err-vs.field-0.0 read c.in_err-vs.was in
    let e : c.from_residual-in_err-vs.result ≡ Err (Malformed m.0) = p.1 ∙ ap Err (p.2 ∙ m.2) in
    subst (Answers c.args.line.bytes.now) (sym e) (answers c.args.line.bytes.now (Err (Malformed m.0)) (
      c.requires.shaped,
      λ head fields h.
          let q = c.requires.headed head fields h in
          let f = fields_at c.args.line.bytes.now head fields c.args.start h q.1 in
          let n = right c.args.line.bytes.now c.names-expected.result.now c.args.kind _ _ c.args.start c.names-expected.ensures c.all_named.ensures ok fields f in
          let bad = subst (Read fields c.args.start (length c.names-expected.result.now)) m.1 (c.values.ensures fields f n.1) in
          (c.args.kind, q.0, n.0, first_unsound head fields m.0 h.1 (ap (first_malformed fields) (sym q.1) ∙ bad)),
    ))

pub returns : goal.returns
returns c =
    let named : Mapped c.all_named.result Misnamed c.map_err.result = search rules in
    let ok = mapped_ok c.all_named.result Misnamed c.map_err.result c.in_ok-map_err.field-0 named c.in_ok-map_err.was in
    let read : Mapped c.values.result Malformed c.map_err-2.result = search rules in
    let got = mapped_ok c.values.result Malformed c.map_err-2.result c.in_ok-vs.vs read c.in_ok-vs.was in
    answers c.args.line.bytes.now (Ok c.form_of.result) (
      c.requires.shaped,
      λ head fields h.
          let q = c.requires.headed head fields h in
          let f = fields_at c.args.line.bytes.now head fields c.args.start h q.1 in
          let n = right c.args.line.bytes.now c.names-expected.result.now c.args.kind _ _ c.args.start c.names-expected.ensures c.all_named.ensures ok fields f in
          let v = subst (Read fields c.args.start (length c.names-expected.result.now)) got (c.values.ensures fields f n.1) in
          let many = ap (λ m. take m c.in_ok-vs.vs) (count_is c.names-expected.result.now (field_names c.args.kind) c.names-expected.ensures) in
          (q.0 ∙ ap head_text (sym c.form_of.ensures.kind), n.0 ∙ ap field_names (sym c.form_of.ensures.kind), all_sound fields c.args.start h.1 v.0, sym (values_are fields h.1) ∙ sym v.1 ∙ many ∙ sym c.form_of.ensures.numbers),
    )
