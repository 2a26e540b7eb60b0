-- How a check begins, and what it leaves.
use Rattle.std.proofs.Common.{◌≡◌, ℕ, ◌+◌, ◌<◌, List, [], ◌++◌, length, take, drop, Some, Ok, Err, sym, ap, ◌∙◌, subst, inl, inr, arith}
use Rattle.std.specs.Prelude.{slice_get}
use Rattle.std.proofs.lemmas.Bool.{cases_lt}
use Rattle.std.proofs.lemmas.List.{append-nil, get_or_past, length-take-le, take-append-drop, take-take}
use Rattle.std.proofs.lemmas.Option.{slice_get_within, get_or_from_slice_get}
use Rattle.rows.specs.declared.type_row.TypeRow.{TypeRow}
use Rattle.rows.specs.declared.expression.Expression.TheVariants.{Error, As}
use Rattle.rows.specs.declared.function.Function.{Function}
use Rattle.rows.specs.declared.function.Query.{Query}
use Rattle.rows.specs.Programs.{ProgramRows}
use Rattle.types.specs.declared.type_rows.TypeRows.{TypeRows}
use Rattle.types.specs.Parts.{Root, Lawful}
use Rattle.types.specs.Places.{Checked}
use Rattle.types.specs.Tables.{rows_of}
use Rattle.types.proofs.OfTable.{table-lawful}
use Rattle.typing.specs.declared.fault.TypeFault.{TypeFault}
use Rattle.typing.specs.Outcomes.{Progress, goes, stops, Gives}
use Rattle.typing.specs.Checking.{Ready, all_typed, declared}
use Rattle.typing.specs.Typing.{expression_at}
use Rattle.typing.proofs.GrowthAccepted.{ready_checked}
use Rattle.session.specs.declared.counts.Counts.{Counts}
use Rattle.session.specs.declared.type_table.TypeTable.{TypeTable}
use Rattle.session.specs.declared.checking.scope.State.{State}
use Rattle.session.specs.Bodies.{no_function}
use Rattle.session.specs.Tables.{declared_of}
use Rattle.session.specs.Calls.{opened, checked, Tables}
use Rattle.session.specs.CheckCall.{made_in, all_types, CheckCall}
use Rattle.session.specs.Progress.{table_of, DeclaredRoot, Grows}
use Rattle.session.specs.Typings.{Standing, Gave}
use Rattle.session.proofs.Making.{table-long}

-- THE START: a table with no made rows

module _ (d : TypeTable) (flat : d.counts.all ≡ d.counts.declared) where
  pub all_declared : table_of d.rows d.counts ≡ declared_of d
  all_declared = ap (λ n. take n d.rows) flat

  module _ (r : TypeRows) (same : rows_of r ≡ declared_of d) {g : ProgramRows} {q : Query} (ready : Ready (rows_of r) g q) where
    here : rows_of r ≡ table_of d.rows d.counts
    here = same ∙ sym all_declared

    pub ready_here : Ready (table_of d.rows d.counts) g q
    ready_here = subst (λ ts. Ready ts g q) here ready

    long_here : length (table_of d.rows d.counts) ≡ d.counts.declared
    long_here = table-long d.rows d.counts d.long ∙ flat

    declared_root : {x : ℕ} → Root (table_of d.rows d.counts) x → DeclaredRoot d.counts.declared (table_of d.rows d.counts) x
    declared_root {x} root = record { root = root; low = subst (λ n. x < n) long_here root.there }

    pub input_root : DeclaredRoot d.counts.declared (table_of d.rows d.counts) q.input
    input_root = declared_root ready_here.input

    function_roots : (n : ℕ) (f : Function) → slice_get g.functions n ≡ Some f → DeclaredRoot d.counts.declared (table_of d.rows d.counts) f.parameter × DeclaredRoot d.counts.declared (table_of d.rows d.counts) f.result
    function_roots n f is =
        let k = ready_here.functions n (slice_get_within g.functions n f is) in
        let at = get_or_from_slice_get g.functions n f no_function is in
        let Rooted : Function → Type 0 = λ x. Root (table_of d.rows d.counts) x.parameter × Root (table_of d.rows d.counts) x.result in
        let roots = subst Rooted at k in
        (declared_root roots.0, declared_root roots.1)

    target_root : (e a t : ℕ) → expression_at g e ≡ As a t → DeclaredRoot d.counts.declared (table_of d.rows d.counts) t
    target_root e a t is = elim (cases_lt e (length g.expressions)) [
      | inl l ↦ declared_root (ready_here.targets e l a t is)
      | inr l ↦ (let none : Error ≡ As a t = sym (get_or_past g.expressions e Error l) ∙ is in cc)
    ]

    pub first_standing : (s : State) → s.variables.items ≡ [] → Standing g d.rows d.counts s
    first_standing s none = record {
      long = d.long;
      typable = record {
        checked = subst (Checked (table_of d.rows d.counts)) long_here (ready_checked (subst Lawful here (table-lawful r)) ready_here);
        within = omega (arith, long_here);
        variables = λ i x is. (let past : slice_get [] i ≡ Some x = ap (λ vs. slice_get vs i) (sym none) ∙ is in cc);
        functions = function_roots;
        targets = target_root;
      };
    }

  -- the declared rows stay while others are made
  pub declared_same : {after : List TypeRow} {n : Counts} → Grows d.rows d.counts after n → (k : ℕ) → k ≡ n.declared → take k after ≡ declared_of d
  declared_same {after} grows k is = ap (λ m. take m after) (is ∙ grows.declared ∙ sym flat) ∙ grows.same ∙ all_declared

-- all rows are the declared ones and those that were made
pub all_of : (rows : List TypeRow) (c : Counts) → take c.declared rows ++ drop c.declared (take c.all rows) ≡ take c.all rows
all_of rows c =
    let le = c.ordered in
    ap (λ ts. ts ++ drop c.declared (take c.all rows)) (sym (take-take c.declared c.all rows le)) ∙ take-append-drop c.declared (take c.all rows)

pub declared_long : (d : TypeTable) → length (declared_of d) ≡ d.counts.declared
declared_long d =
    let o = d.counts.ordered in
    let f = d.counts.few in
    let l = d.long in
    length-take-le d.counts.declared d.rows (omega arith)

-- THE END

module _ {t : Tables} {q : Query} (ready : Ready t.types t.program q) {p o : Progress} (begin : p ≡ declared t.types) (u : Tables) (types : u.types ≡ t.types) (program : u.program ≡ t.program) where
  pub call_refused : {f : TypeFault} → Gave (all_typed t.program q p) (Err f) o → u.standing ≡ opened → CheckCall t (Err f) u
  call_refused {f} gave is = record {
    types = types;
    program = program;
    checks = (inr (q, ready, subst (λ z. Gives (all_typed t.program q z) (stops f)) begin gave.gives), ap (λ z. u.types ++ made_in z) is ∙ append-nil u.types ∙ types);
    stands = is;
  }

  pub call_accepted : {x : ℕ} → Gave (all_typed t.program q p) (Ok x) o → (ms : List TypeRow) → u.standing ≡ checked ms → all_types u ≡ o.types → (made : ℕ) → length o.types ≡ length t.types + made
      → CheckCall t (Ok (record { row = x; made = made; error = o.error })) u
  call_accepted {x} gave ms is all made long = record {
    types = types;
    program = program;
    checks = (q, ready, subst (λ z. Gives (all_typed t.program q (declared t.types)) (goes x (record { types = z; error = o.error }))) (sym all) (subst (λ z. Gives (all_typed t.program q z) (goes x o)) begin gave.gives), ap length all ∙ long);
    stands = (ms, is);
  }
