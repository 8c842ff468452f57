-- What is saved of a sheet makes its table again: its tasks, their links and deadlines, and then which are soft. Assumes nothing.
use Rattle.std.proofs.Common.{◌≡◌, refl, sym, subst, ap, ◌∙◌, ⊎_elim, List, [], ◌∷◌, ◌++◌, Bool, true, false, ◌&&◌, ◌||◌, cond, eqb, ltb, ℕ, zero, suc, ◌<◌, ◌≤◌, arith, length, length-set, set}
use Rattle.std.proofs.lemmas.Bool.{cases_eq, cases_lt, cond-false, cond-true, and_parts, false_from_ne_true, le-ltb, lt-ltb}
use Rattle.std.proofs.lemmas.Bool.Decides.{nat_tests}
use Rattle.std.proofs.lemmas.Grind.{get_or-set_at}
use Rattle.std.proofs.lemmas.List.{get_or-set_other, get_or_append_left, get_or_past, get_or_push, length_push}
use Rattle.book.specs.Standard.{Contents}
use Rattle.common.proofs.Sets.{has-adding, has-none}
use Rattle.common.specs.Refusals.{kept_unless}
use Rattle.common.specs.Sets.{adding, has}
use Rattle.file.proofs.Going.{Goes, goes-append}
use Rattle.file.specs.Frames.{Frame, task, link, hard, soft}
use Rattle.file.specs.Loads.{Made, call_of}
use Rattle.file.specs.Loads as loads
use Rattle.file.specs.Saved.{each, hard_frame, if_so, if_some, link_frame, links_from, soft_frame, task_frame}
use Rattle.file.specs.declared.call.Call.TheVariants.{OnSheet}
use Rattle.sheet.proofs.Equal.{alike-same}
use Rattle.sheet.proofs.Kept.{keeps}
use Rattle.sheet.proofs.Paths.{carried, up-decides}
use Rattle.sheet.proofs.Rules.{Sound, empty_sound, linked-put, sound-of}
use Rattle.sheet.proofs.Tables.{few-listed}
use Rattle.sheet.specs.Calls.{after, changed, new_task, verdict, with_before, with_kind}
use Rattle.sheet.specs.Links.{Path, one, more, linked, up}
use Rattle.sheet.specs.Margins.{deadline_of}
use Rattle.sheet.specs.Sheets.{table}
use Rattle.sheet.specs.Tables.{Table, blank, is_hard, is_soft, task_of}
use Rattle.sheet.specs.declared.call.Call.{Call}
use Rattle.sheet.specs.declared.call.Call.TheVariants.{Task as Task_call, Link, Hard as Hard_call, Soft as Soft_call}
use Rattle.sheet.specs.declared.sheet.Sheet.{Sheet}
use Rattle.sheet.specs.declared.table.Kind.{Kind}
use Rattle.sheet.specs.declared.table.Kind.TheVariants.{Plain, Soft, Hard}
use Rattle.sheet.specs.declared.table.Task.{Task}

-- ---- frames that make a table of another, whatever the book holds

abbrev Makes : Table → List Frame → Table → Type 0
Makes t fs t' = (b : Contents) → Goes (record { tasks = t; worths = b }) fs (record { tasks = t'; worths = b })

-- they make one of which P holds
abbrev Leads : Table → List Frame → (Table → Type 0) → Type 0
Leads t fs P = (t' : Table) × Makes t fs t' × P t'

leads-none : (t : Table) (P : Table → Type 0) → P t → Leads t [] P
leads-none t P here = (t, λ b. refl, here)

leads-append : (t : Table) (fs gs : List Frame) (P Q : Table → Type 0) → Leads t fs P → ((t' : Table) → P t' → Leads t' gs Q) → Leads t (fs ++ gs) Q
leads-append t fs gs P Q first then =
    let second = then first.0 first.2 in
    (second.0, λ b. goes-append (record { tasks = t; worths = b }) (record { tasks = first.0; worths = b }) (record { tasks = second.0; worths = b }) fs gs (first.1 b) (second.1 b), second.2)

leads-each : (P : ℕ → Table → Type 0) (f : ℕ → List Frame) (n : ℕ) → ((k : ℕ) (t : Table) → k < n → P k t → Leads t (f k) (P (suc k))) → (t : Table) → P 0 t → Leads t (each n f) (P n)
unfolding each
leads-each P f zero step t here = leads-none t (P 0) here
leads-each P f (suc n) step t here =
    leads-append t (each n f) (f n) (P n) (P (suc n)) (leads-each P f n (λ k u lt. step k u (omega (arith, lt))) t here) (λ u. step n u (omega arith))

-- one frame, whose call is accepted
leads-call : (t : Table) (f : Frame) (c : Call) (P : Table → Type 0) → call_of f ≡ OnSheet c → verdict t c ≡ 0 → P (changed t c) → Leads t (f ∷ []) P
leads-call t f c P is accepted here =
    let left : after t c ≡ changed t c = ap (λ n. kept_unless n (changed t c) t) accepted in (
      changed t c,
      λ b.
          let m : Made = record { tasks = t; worths = b } in
          (ap (loads.verdict m) is ∙ accepted, ap (loads.after m) is ∙ ap (λ x. record { tasks = x; worths = b }) left),
      here,
    )

leads-so : (holds : Bool) (f : Frame) (t : Table) (P : Table → Type 0) → (holds ≡ true → Leads t (f ∷ []) P) → (holds ≡ false → P t) → Leads t (if_so holds f) P
leads-so true f t P so not_so = so refl
leads-so false f t P so not_so = leads-none t P (not_so refl)

-- ---- how far a table u has come on the way to t

-- it has the first n tasks, without links and kinds
record Begun (t : Table) (n : ℕ) (u : Table) : Type 0 where
  count : length u ≡ n
  same : (k : ℕ) → k < n → task_of u k ≡ new_task (task_of t k).min (task_of t k).max
  sound : Sound u

-- it has all tasks, of these kinds, and the links of t that are done
record Near (t : Table) (kind : ℕ → Kind) (done : ℕ → ℕ → Bool) (u : Table) : Type 0 where
  count : length u ≡ length t
  least : (k : ℕ) → k < length t → (task_of u k).min ≡ (task_of t k).min
  most : (k : ℕ) → k < length t → (task_of u k).max ≡ (task_of t k).max
  kinds : (k : ℕ) → k < length t → (task_of u k).kind ≡ kind k
  links : (a b : ℕ) → linked u a b ≡ (linked t a b && done a b)
  sound : Sound u

-- the same, in other words
near-same : (t u : Table) (kind kind' : ℕ → Kind) (done done' : ℕ → ℕ → Bool) → Near t kind done u → ((k : ℕ) → k < length t → kind k ≡ kind' k) → ((a b : ℕ) → linked t a b ≡ true → done a b ≡ done' a b) → Near t kind' done' u
near-same t u kind kind' done done' s kinds links =
    record {
      count = s.count;
      least = s.least;
      most = s.most;
      kinds = λ k lt. s.kinds k lt ∙ kinds k lt;
      links = λ a b. s.links a b ∙ both (linked t a b) (done a b) (done' a b) (links a b);
      sound = s.sound;
    }
  where
    both : (x y z : Bool) → (x ≡ true → y ≡ z) → (x && y) ≡ (x && z)
    both true y z e = e refl
    both false y z e = refl

-- ---- another task in the place of task b

module _ (u : Table) (b : ℕ) (x : Task) (there : b < length u) where
  put-at : task_of (set u b x) b ≡ x
  put-at = get_or-set_at u b b x blank refl there

  put-other : (k : ℕ) → (k ≡ b → ⊥) → task_of (set u b x) k ≡ task_of u k
  put-other k other = get_or-set_other u b k x blank other

  -- what is said of the tasks stays, where x has it too
  put-held : {A : Type 0} (g : Task → A) → g x ≡ g (task_of u b) → (k : ℕ) → g (task_of (set u b x) k) ≡ g (task_of u k)
  put-held g e k =
      ⊎_elim
      (λ same. ap (λ i. g (task_of (set u b x) i)) same ∙ ap g put-at ∙ e ∙ ap (λ i. g (task_of u i)) (sym same))
      (λ other. ap g (put-other k other))
      (cases_eq k b)

-- ---- the tasks

module _ (t : Table) (r : Sound t) (few : length t ≤ 16) where
  one-task : (k : ℕ) (u : Table) → k < length t → Begun t k u → Leads u (task_frame t k) (Begun t (suc k))
  one-task k u lt s =
      let x = task_of t k in
      let last = r.lasting k blank lt in
      let y = new_task x.min x.max in
      let accepted : verdict u (Task_call x.min x.max) ≡ 0 = grind (arith, nat_tests, s.count, last.0, last.1, last.2) in
      leads-call u (task x.min x.max) (Task_call x.min x.max) (Begun t (suc k)) refl accepted
      (record {
        count = omega (arith, length_push u y, s.count);
        same = λ j h.
            ⊎_elim
            (λ e. ap (task_of (u ++ y ∷ [])) e ∙ get_or_push u y blank k s.count ∙ ap (λ i. new_task (task_of t i).min (task_of t i).max) (sym e))
            (λ ne. let low : j < k = omega (arith, h, ne) in get_or_append_left u (y ∷ []) blank j (omega (arith, low, s.count)) ∙ s.same j low)
            (cases_eq j k);
        sound = keeps u (Task_call x.min x.max) s.sound accepted;
      })

tasks-near : (t u : Table) → Begun t (length t) u → Near t (λ k. Plain) (λ a b. false) u
unfolding linked
tasks-near t u s =
    record {
      count = s.count;
      least = λ k lt. ap (λ x. x.min) (s.same k lt);
      most = λ k lt. ap (λ x. x.max) (s.same k lt);
      kinds = λ k lt. ap (λ x. x.kind) (s.same k lt);
      links = λ a b. alone a b ∙ sym (never (linked t a b));
      sound = s.sound;
    }
  where
    never : (b : Bool) → (b && false) ≡ false
    never true = refl
    never false = refl

    alone : (a b : ℕ) → linked u a b ≡ false
    alone a b =
        ⊎_elim
        (λ lt. ap (λ x. has x.before.0 a) (s.same b lt) ∙ has-none a)
        (λ ge. ap (λ x. has x.before.0 a) (get_or_past u b blank (omega (arith, ge, s.count))) ∙ has-none a)
        (cases_lt b (length t))

-- ---- the links

link-adds : (u : Table) (a b : ℕ) → b < length u → (x y : ℕ) → linked (changed u (Link a b)) x y ≡ (linked u x y || (eqb x a && eqb y b))
unfolding linked
link-adds u a b lt x y =
    let old = (task_of u b).before.0 in
    grind (arith, nat_tests, linked-put u b (with_before (adding old a) (task_of u b)) lt x y, has-adding old a x)

-- all from below k, and from k those to below x
abbrev row_done : (k x a b : ℕ) → Bool
row_done k x a b = ltb a k || (eqb a k && ltb b x)

-- the same, before any task has a kind; and all from below n
abbrev InRow : Table → (k x : ℕ) → Table → Type 0
InRow t k x = Near t (λ j. Plain) (row_done k x)

abbrev Linked : Table → ℕ → Table → Type 0
Linked t n = Near t (λ j. Plain) (λ a b. ltb a n)

module _ (t : Table) (r : Sound t) where
  one-link : (k x : ℕ) (u : Table) → InRow t k x u → Leads u (link_frame t k x) (InRow t k (suc x))
  unfolding linked
  one-link k x u s =
      leads-so (linked t k x) (link k x) u (InRow t k (suc x)) there
      (λ no. near-same t u (λ j. Plain) (λ j. Plain) (row_done k x) (row_done k (suc x)) s (λ j lt. refl) (λ a b l. grind (arith, nat_tests, no, l)))
    where
      there : linked t k x ≡ true → Leads u (link k x ∷ []) (InRow t k (suc x))
      there l =
          let known = r.known k x l in
          let lk : k < length u = omega (arith, known.0, s.count) in
          let lx : x < length u = omega (arith, known.1, s.count) in
          let old : (a b : ℕ) → linked u a b ≡ true → Path t a b = λ a b m. one (and_parts (linked t a b) (row_done k x a b) (sym (s.links a b) ∙ m)).0 in
          let off : up u x k ≡ false =
          false_from_ne_true (up u x k) (λ e.
          ⊎_elim
          (λ same. r.acyclic k (one (ap (linked t k) (sym same) ∙ l)))
          (λ p. r.acyclic k (more l (carried u t old p)))
          ((up-decides u s.sound.known x k).0 e)) in
          let accepted : verdict u (Link k x) ≡ 0 = grind (arith, nat_tests, lk, lx, off) in
          let y = with_before (adding (task_of u x).before.0 k) (task_of u x) in
          leads-call u (link k x) (Link k x) (InRow t k (suc x)) refl accepted
          (record {
            count = length-set u x y ∙ s.count;
            least = λ j h. put-held u x y lx (λ z. z.min) refl j ∙ s.least j h;
            most = λ j h. put-held u x y lx (λ z. z.max) refl j ∙ s.most j h;
            kinds = λ j h. put-held u x y lx (λ z. z.kind) refl j ∙ s.kinds j h;
            links = λ a b. grind (arith, nat_tests, link-adds u k x lx a b, s.links a b, l);
            sound = keeps u (Link k x) s.sound accepted;
          })

  links-of : (k : ℕ) (u : Table) → Linked t k u → Leads u (links_from t k) (Linked t (suc k))
  links-of k u s =
      let begin : InRow t k 0 u = near-same t u (λ j. Plain) (λ j. Plain) (λ a b. ltb a k) (row_done k 0) s (λ j lt. refl) (λ a b l. grind (arith, nat_tests)) in
      let row = leads-each (InRow t k) (link_frame t k) (length t) (λ x v lt. one-link k x v) u begin in (
        row.0,
        row.1,
        near-same t row.0 (λ j. Plain) (λ j. Plain) (row_done k (length t)) (λ a b. ltb a (suc k)) row.2 (λ j lt. refl)
            (λ a b l. let known = r.known a b l in grind (arith, nat_tests, known.1)),
      )

-- ---- the kinds

-- before any task is soft
abbrev due_kind : Kind → Kind
due_kind Plain = Plain
due_kind Soft = Plain
due_kind (Hard d) = Hard d

-- those of f below n, and of g from n on
abbrev from_two : (f g : ℕ → Kind) → (n k : ℕ) → Kind
from_two f g n k = cond (ltb k n) (f k) (g k)

module _ (f g : ℕ → Kind) (n : ℕ) where
  two-below : (k : ℕ) → k < n → from_two f g n k ≡ f k
  two-below k lt = cond-true (ltb k n) (f k) (g k) (lt-ltb k n lt)

  two-above : (k : ℕ) → n ≤ k → from_two f g n k ≡ g k
  two-above k ge = cond-false (ltb k n) (f k) (g k) (le-ltb k n ge)

  two-more : (k : ℕ) → (k ≡ n → ⊥) → from_two f g (suc n) k ≡ from_two f g n k
  two-more k other = ap (λ b. cond b (f k) (g k)) (grind (arith, nat_tests))

-- task k has the kind x, where it had that of g
module _ (t u : Table) (f g : ℕ → Kind) (done : ℕ → ℕ → Bool) (k : ℕ) (lt : k < length t) (s : Near t (from_two f g k) done u) where
  more-kept : f k ≡ g k → Near t (from_two f g (suc k)) done u
  more-kept same =
      near-same t u (from_two f g k) (from_two f g (suc k)) done done s
      (λ j low.
      ⊎_elim
      (λ e. ap (from_two f g k) e ∙ two-above f g k k (omega arith) ∙ sym same ∙ sym (two-below f g (suc k) k (omega arith)) ∙ ap (from_two f g (suc k)) (sym e))
      (λ other. sym (two-more f g k j other))
      (cases_eq j k))
      (λ a b l. refl)

  more-marked : (x : Kind) → f k ≡ x → Sound (set u k (with_kind x (task_of u k))) → Near t (from_two f g (suc k)) done (set u k (with_kind x (task_of u k)))
  unfolding linked
  more-marked x is sound =
      let y = with_kind x (task_of u k) in
      let there : k < length u = omega (arith, s.count) in
      record {
        count = length-set u k y ∙ s.count;
        least = λ j low. put-held u k y there (λ z. z.min) refl j ∙ s.least j low;
        most = λ j low. put-held u k y there (λ z. z.max) refl j ∙ s.most j low;
        kinds = λ j low.
            ⊎_elim
            (λ e. ap (λ i. (task_of (set u k y) i).kind) e ∙ ap (λ z. z.kind) (put-at u k y there) ∙ sym is ∙ sym (two-below f g (suc k) k (omega arith)) ∙ ap (from_two f g (suc k)) (sym e))
            (λ other. ap (λ z. z.kind) (put-other u k y there j other) ∙ s.kinds j low ∙ sym (two-more f g k j other))
            (cases_eq j k);
        links = λ a b. put-held u k y there (λ z. has z.before.0 a) refl b ∙ s.links a b;
        sound = sound;
      }

  had : (task_of u k).kind ≡ g k
  had = s.kinds k lt ∙ two-above f g k k (omega arith)

abbrev own_kind : Table → ℕ → Kind
own_kind t k = (task_of t k).kind

abbrev kind_due : Table → ℕ → Kind
kind_due t k = due_kind (task_of t k).kind

-- all links are made, and the deadlines are set of the tasks below n
abbrev Due : Table → ℕ → Table → Type 0
Due t n = Near t (from_two (kind_due t) (λ k. Plain) n) (λ a b. ltb a (length t))

-- all deadlines are set too, and those below n are soft that are soft in t
abbrev Softened : Table → ℕ → Table → Type 0
Softened t n = Near t (from_two (own_kind t) (kind_due t) n) (λ a b. ltb a (length t))

module _ (t : Table) (r : Sound t) (k : ℕ) (u : Table) (lt : k < length t) where
  one-hard : Due t k u → (x : Kind) → own_kind t k ≡ x → Leads u (if_some (hard k) (deadline_of x)) (Due t (suc k))
  one-hard s Plain is = leads-none u (Due t (suc k)) (more-kept t u (kind_due t) (λ j. Plain) (λ a b. ltb a (length t)) k lt s (ap due_kind is))
  one-hard s Soft is = leads-none u (Due t (suc k)) (more-kept t u (kind_due t) (λ j. Plain) (λ a b. ltb a (length t)) k lt s (ap due_kind is))
  one-hard s (Hard d) is =
      let due = r.due k blank lt d is in
      let free : is_soft (task_of u k).kind ≡ false = ap is_soft (had t u (kind_due t) (λ j. Plain) (λ a b. ltb a (length t)) k lt s) in
      let accepted : verdict u (Hard_call k d) ≡ 0 = grind (arith, nat_tests, lt, s.count, due.0, due.1, free) in
      leads-call u (hard k d) (Hard_call k d) (Due t (suc k)) refl accepted
      (more-marked t u (kind_due t) (λ j. Plain) (λ a b. ltb a (length t)) k lt s (Hard d) (ap due_kind is) (keeps u (Hard_call k d) s.sound accepted))

  one-soft : Softened t k u → (x : Kind) → own_kind t k ≡ x → Leads u (if_so (is_soft x) (soft k)) (Softened t (suc k))
  one-soft s Plain is = leads-none u (Softened t (suc k)) (more-kept t u (own_kind t) (kind_due t) (λ a b. ltb a (length t)) k lt s (is ∙ sym (ap due_kind is)))
  one-soft s (Hard d) is = leads-none u (Softened t (suc k)) (more-kept t u (own_kind t) (kind_due t) (λ a b. ltb a (length t)) k lt s (is ∙ sym (ap due_kind is)))
  one-soft s Soft is =
      let free : is_hard (task_of u k).kind ≡ false = ap is_hard (had t u (own_kind t) (kind_due t) (λ a b. ltb a (length t)) k lt s ∙ ap due_kind is) in
      let accepted : verdict u (Soft_call k) ≡ 0 = grind (arith, nat_tests, lt, s.count, free) in
      leads-call u (soft k) (Soft_call k) (Softened t (suc k)) refl accepted
      (more-marked t u (own_kind t) (kind_due t) (λ a b. ltb a (length t)) k lt s Soft is (keeps u (Soft_call k) s.sound accepted))

-- ---- one kind of frames after another

module _ (t : Table) (r : Sound t) (few : length t ≤ 16) where
  tasks : Leads [] (each (length t) (task_frame t)) (Begun t (length t))
  tasks = leads-each (Begun t) (task_frame t) (length t) (one-task t r few) [] (record { count = refl; same = λ k lt. absurd (omega (arith, lt)); sound = empty_sound })

  links : (u : Table) → Begun t (length t) u → Leads u (each (length t) (links_from t)) (Linked t (length t))
  links u s =
      leads-each (Linked t) (links_from t) (length t) (λ k v lt. links-of t r k v) u
      (near-same t u (λ k. Plain) (λ k. Plain) (λ a b. false) (λ a b. ltb a 0) (tasks-near t u s) (λ k lt. refl) (λ a b l. sym (le-ltb a 0 (omega arith))))

  deadlines : (u : Table) → Linked t (length t) u → Leads u (each (length t) (hard_frame t)) (Due t (length t))
  deadlines u s =
      leads-each (Due t) (hard_frame t) (length t) (λ k v lt now. one-hard t r k v lt now (own_kind t k) refl) u
      (near-same t u (λ k. Plain) (from_two (kind_due t) (λ k. Plain) 0) (λ a b. ltb a (length t)) (λ a b. ltb a (length t)) s
      (λ k lt. sym (two-above (kind_due t) (λ j. Plain) 0 k (omega arith))) (λ a b l. refl))

  softs : (u : Table) → Due t (length t) u → Leads u (each (length t) (soft_frame t)) (Softened t (length t))
  softs u s =
      leads-each (Softened t) (soft_frame t) (length t) (λ k v lt now. one-soft t r k v lt now (own_kind t k) refl) u
      (near-same t u (from_two (kind_due t) (λ k. Plain) (length t)) (from_two (own_kind t) (kind_due t) 0) (λ a b. ltb a (length t)) (λ a b. ltb a (length t)) s
      (λ k lt. two-below (kind_due t) (λ j. Plain) (length t) k lt ∙ sym (two-above (own_kind t) (kind_due t) 0 k (omega arith))) (λ a b l. refl))

  made_again : (u : Table) → Softened t (length t) u → u ≡ t
  made_again u s =
      alike-same u t s.sound.known r.known (record {
        count = s.count;
        least = λ k lt. s.least k (omega (arith, lt, s.count));
        most = λ k lt. s.most k (omega (arith, lt, s.count));
        kinds = λ k lt. let low : k < length t = omega (arith, lt, s.count) in s.kinds k low ∙ two-below (own_kind t) (kind_due t) (length t) k low;
        links = λ a b la lb. grind (arith, nat_tests, s.links a b, s.count, la);
      })

  before_soft : Leads [] (each (length t) (task_frame t) ++ (each (length t) (links_from t) ++ each (length t) (hard_frame t))) (Due t (length t))
  before_soft =
      leads-append [] (each (length t) (task_frame t)) (each (length t) (links_from t) ++ each (length t) (hard_frame t)) (Begun t (length t)) (Due t (length t)) tasks
      (λ u s. leads-append u (each (length t) (links_from t)) (each (length t) (hard_frame t)) (Linked t (length t)) (Due t (length t)) (links u s) deadlines)

  table_goes : (T : Table)
      × Makes [] (each (length t) (task_frame t) ++ (each (length t) (links_from t) ++ each (length t) (hard_frame t))) T
      × Makes T (each (length t) (soft_frame t)) t
  table_goes =
      let first = before_soft in
      let second = softs first.0 first.2 in
      (first.0, first.1, subst (Makes first.0 (each (length t) (soft_frame t))) (made_again second.0 second.2) second.1)

pub tasks_go : (s : Sheet) → let t = table s in
    (T : Table)
    × ((b : Contents) → Goes (record { tasks = []; worths = b }) (each (length t) (task_frame t) ++ (each (length t) (links_from t) ++ each (length t) (hard_frame t))) (record { tasks = T; worths = b }))
    × ((b : Contents) → Goes (record { tasks = T; worths = b }) (each (length t) (soft_frame t)) (record { tasks = t; worths = b }))
tasks_go s = table_goes (table s) (sound-of s) (few-listed s.table)
