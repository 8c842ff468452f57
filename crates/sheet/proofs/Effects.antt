-- What the relation says of a call is what its definition computes. Assumes nothing.
use Rattle.std.proofs.Common.{◌≡◌, ◌≢◌, refl, sym, ap, subst, ◌∙◌, Bool, true, false, not, ◌||◌, ◌⊎◌, inl, inr, ⊎_elim, [], ◌∷◌, ◌++◌, ℕ, ◌<◌, ◌≤◌, arith, length, set, ◌↔◌, length-set, get_or-set_other}
use Rattle.std.proofs.lemmas.Bool.{cases_eq, cases_lt, false≢true, or_cases}
use Rattle.std.proofs.lemmas.Bool.Decides.{nat_tests}
use Rattle.std.proofs.lemmas.Grind.{common_steps, elements, get_or-set_at}
use Rattle.std.proofs.Math.Seq.{get_or-append_seam}
use Rattle.std.proofs.lemmas.List.{get_or-append_right, get_or_append_left, get_or_past}
use Rattle.common.specs.Refusals.{Rows, first_fit, kept_unless}
use Rattle.common.proofs.Sets.{has-adding, has-none, has-removing}
use Rattle.common.specs.Sets.{adding, has, removing}
use Rattle.sheet.proofs.Equal.{alike-same}
use Rattle.sheet.proofs.Kept.{keeps}
use Rattle.sheet.proofs.Paths.{up-decides}
use Rattle.sheet.proofs.Rules.{Sound, linked-put}
use Rattle.sheet.specs.Calls.{after, changed, lasts, rows, unknown as unknown_task, verdict, new_task, with_durations, with_kind, with_before}
use Rattle.sheet.specs.Effects.{Answers, Applies, Does, DurationsSet, DurationsStay, KindSet, KindsStay, LinksStay, LinksStayBut, Makes, Names, SameDurations, SameKind, SameLink, TaskAdded}
use Rattle.sheet.specs.Effects.Applies.{unknown, full, task_durations, time_durations, circle, no_link, deadline, was_soft, was_hard}
use Rattle.sheet.specs.Links.{linked}
use Rattle.sheet.specs.Rules.{Known, MayLast}
use Rattle.sheet.specs.Tables.{Table, blank, task_of, is_soft, is_hard}
use Rattle.sheet.specs.declared.call.Call.{Call}
use Rattle.sheet.specs.declared.call.Call.TheVariants.{Task as task, Time as time, Link as link, Cut as cut, Hard as hard, Soft as soft, Plain as plain}
use Rattle.sheet.specs.declared.table.Kind.{Kind}
use Rattle.sheet.specs.declared.table.Kind.TheVariants.{Plain, Soft, Hard}
use Rattle.sheet.specs.declared.table.Task.{Task}

-- ---- the answer

module _ (t : Table) (known : Known t) where
  -- where a task that it names is not there, a call is answered 1
  unknown-first : (c : Call) (k : ℕ) → Names c k → length t ≤ k → verdict t c ≡ 1
  unknown-first (task min max) k h ge = absurd h
  unknown-first (time j min max) k h ge = grind (arith, nat_tests)
  unknown-first (link a b) k h ge = ⊎_elim (λ e. grind (arith, nat_tests)) (λ e. grind (arith, nat_tests)) h
  unknown-first (cut a b) k h ge = ⊎_elim (λ e. grind (arith, nat_tests)) (λ e. grind (arith, nat_tests)) h
  unknown-first (hard j d) k h ge = grind (arith, nat_tests)
  unknown-first (soft j) k h ge = grind (arith, nat_tests)
  unknown-first (plain j) k h ge = grind (arith, nat_tests)

  smallest : (c : Call) (j : ℕ) → Applies t c j → (0 < verdict t c) × (verdict t c ≤ j)
  smallest c j (unknown k h ge) = let e = unknown-first c k h ge in (omega (arith, e), omega (arith, e))
  smallest c j (full h) = grind (arith, nat_tests)
  smallest c j (task_durations h) = grind (arith, nat_tests)
  smallest c j (time_durations h) = grind (arith, nat_tests)
  smallest c j (circle {a = a} {b = b} h) = let e = (up-decides t known b a).1 h in grind (arith, nat_tests, e)
  smallest c j (no_link h) = grind (arith, nat_tests, h)
  smallest c j (deadline h) = grind (arith, nat_tests)
  smallest c j (was_soft h) = grind (arith, nat_tests, h)
  smallest c j (was_hard h) = grind (arith, nat_tests, h)

-- P holds of the number of each row that fits
abbrev pub EachFit : (ℕ → Type 0) → Rows → Type 0
EachFit P [] = Unit {0}
EachFit P ((fits, n) ∷ rs) = (fits ≡ true → P n) × EachFit P rs

first-is : (P : ℕ → Type 0) (rs : Rows) → EachFit P rs → (first_fit rs ≡ 0) ⊎ P (first_fit rs)
first-is P [] each = inl refl
first-is P ((true, n) ∷ rs) each = inr (each.0 refl)
first-is P ((false, n) ∷ rs) each = first-is P rs each.1

module _ (t : Table) (known : Known t) where
  -- durations that break their rule
  breaks : (min max : ℕ) → not (lasts min max) ≡ true → MayLast min max → ⊥
  breaks min max e h = grind (arith, nat_tests, e, h.0, h.1, h.2)

  either : (a b : ℕ) → (unknown_task t a || unknown_task t b) ≡ true → (k : ℕ) × ((k ≡ a) ⊎ (k ≡ b)) × (length t ≤ k)
  either a b e = ⊎_elim (λ h. (a, inl refl, grind (arith, nat_tests, h))) (λ h. (b, inr refl, grind (arith, nat_tests, h))) (or_cases (unknown_task t a) (unknown_task t b) e)

  soft-kind : (kind : Kind) → is_soft kind ≡ true → kind ≡ Soft
  soft-kind Plain e = absurd (false≢true e)
  soft-kind Soft e = refl
  soft-kind (Hard d) e = absurd (false≢true e)

  hard-kind : (kind : Kind) → is_hard kind ≡ true → (d : ℕ) × (kind ≡ Hard d)
  hard-kind Plain e = absurd (false≢true e)
  hard-kind Soft e = absurd (false≢true e)
  hard-kind (Hard d) e = (d, refl)

  -- a task is not there
  away : (c : Call) (k : ℕ) → Names c k → unknown_task t k ≡ true → Applies t c 1
  away c k names e = unknown k names (grind (arith, nat_tests, e))

  each-applies : (c : Call) → EachFit (Applies t c) (rows t c)
  each-applies (task min max) = (λ e. full (grind (arith, nat_tests, e)), (λ e. task_durations (breaks min max e), tt))
  each-applies (time k min max) = (away (time k min max) k refl, (λ e. time_durations (breaks min max e), tt))
  each-applies (link a b) = (λ e. let m = either a b e in unknown m.0 m.1 m.2, (λ e. circle ((up-decides t known b a).0 e), tt))
  each-applies (cut a b) = (λ e. let m = either a b e in unknown m.0 m.1 m.2, (λ e. no_link (grind (arith, nat_tests, e)), tt))
  each-applies (hard k d) =
      (away (hard k d) k refl, (λ e. deadline (λ h. grind (arith, nat_tests, e, h.0, h.1)), (λ e. was_soft (soft-kind (task_of t k).kind e), tt)))
  each-applies (soft k) = (away (soft k) k refl, (λ e. was_hard (hard-kind (task_of t k).kind e).1, tt))
  each-applies (plain k) = (away (plain k) k refl, tt)

  answers : (c : Call) → Answers t c (verdict t c)
  answers c = record { applies = first-is (Applies t c) (rows t c) (each-applies c); smallest = smallest t known c }

-- no two numbers are answered
one-answer : (t : Table) (c : Call) (m n : ℕ) → Answers t c m → Answers t c n → m ≡ n
one-answer t c m n a b =
    ⊎_elim
    (λ e. ⊎_elim (λ f. omega arith) (λ h. let g = a.smallest n h in absurd (omega arith)) b.applies)
    (λ h. let g = b.smallest m h in ⊎_elim (λ f. absurd (omega arith)) (λ k. let l = a.smallest n k in omega arith) b.applies)
    a.applies

-- ---- the table

module _ (t : Table) where
  -- one task more
  pushed : (min max k : ℕ) → k < length t → task_of (t ++ new_task min max ∷ []) k ≡ task_of t k
  pushed min max k lt = get_or_append_left t (new_task min max ∷ []) blank k lt

  last : (min max : ℕ) → task_of (t ++ new_task min max ∷ []) (length t) ≡ new_task min max
  last min max = get_or-append_seam t (new_task min max) [] blank

  links-pushed : (min max : ℕ) → LinksStay t (t ++ new_task min max ∷ [])
  unfolding linked
  links-pushed min max a b = grind (arith, common_steps, elements, has-none a, get_or_past t b blank, get_or-append_right t (new_task min max ∷ []) (length t) b blank refl)

  -- another task in the place of task k
  module _ (k : ℕ) (x : Task) (lt : k < length t) where
    at-put : task_of (set t k x) k ≡ x
    at-put = get_or-set_at t k k x blank refl lt

    off-put : (u : ℕ) → u ≢ k → task_of (set t k x) u ≡ task_of t u
    off-put u ne = get_or-set_other t k u x blank ne

    -- what it has as the one before it had it stays
    stays-put : {A : Type 0} (f : Task → A) → f x ≡ f (task_of t k) → (u : ℕ) → f (task_of (set t k x) u) ≡ f (task_of t u)
    stays-put f same u = ⊎_elim (λ e. rw e (ap f at-put ∙ same)) (λ ne. ap f (off-put u ne)) (cases_eq u k)

    -- and so does every link, but one
    links-but : (a : ℕ) → ((u : ℕ) → u ≢ a → has x.before.0 u ≡ has (task_of t k).before.0 u) → LinksStayBut t (set t k x) a k
    unfolding linked
    links-but a others u v off =
        ⊎_elim
        (λ ne. stays-put-at v (λ (y : Task). has y.before.0 u) (others u ne))
        (λ ne. ap (λ (y : Task). has y.before.0 u) (off-put v ne))
        off
      where
        stays-put-at : (v : ℕ) (f : Task → Bool) → f x ≡ f (task_of t k) → f (task_of (set t k x) v) ≡ f (task_of t v)
        stays-put-at v f same = stays-put f same v

    links-put : x.before.0 ≡ (task_of t k).before.0 → LinksStay t (set t k x)
    unfolding linked
    links-put same u v = stays-put (λ (y : Task). has y.before.0 u) (ap (λ s. has s u) same) v

    kind-set : (kind : Kind) → x ≡ with_kind kind (task_of t k) → KindSet t (set t k x) k kind
    kind-set kind is =
        record {
          count = length-set t k x;
          is = ap (λ (y : Task). y.kind) (at-put ∙ is);
          others = λ u _ ne. ap (λ (y : Task). y.kind) (off-put u ne);
          durations = λ u _. (stays-put (λ (y : Task). y.min) (ap (λ (y : Task). y.min) is) u, stays-put (λ (y : Task). y.max) (ap (λ (y : Task). y.max) is) u);
          links = links-put (ap (λ (y : Task). y.before.0) is);
        }

  makes-changed : (c : Call) → verdict t c ≡ 0 → Makes t c (changed t c)
  makes-changed (task min max) v =
      record {
        count = grind (arith, common_steps);
        lasts = (ap (λ (x : Task). x.min) (last min max), ap (λ (x : Task). x.max) (last min max));
        plain = ap (λ (x : Task). x.kind) (last min max);
        durations = λ k lt. (ap (λ (x : Task). x.min) (pushed min max k lt), ap (λ (x : Task). x.max) (pushed min max k lt));
        kinds = λ k lt. ap (λ (x : Task). x.kind) (pushed min max k lt);
        links = links-pushed min max;
      }
  makes-changed (time k min max) v =
      let x = with_durations min max (task_of t k) in
      let lt : k < length t = grind (arith, common_steps) in
      record {
        count = length-set t k x;
        lasts = (ap (λ (x : Task). x.min) (at-put k x lt), ap (λ (x : Task). x.max) (at-put k x lt));
        others = λ u _ ne. (ap (λ (x : Task). x.min) (off-put k x lt u ne), ap (λ (x : Task). x.max) (off-put k x lt u ne));
        kinds = λ u _. stays-put k x lt (λ (x : Task). x.kind) refl u;
        links = links-put k x lt refl;
      }
  makes-changed (link a b) v =
      let x = with_before (adding (task_of t b).before.0 a) (task_of t b) in
      let lt : b < length t = grind (arith, common_steps) in
      record {
        count = length-set t b x;
        there = grind (arith, nat_tests, linked-put t b x lt a b, has-adding (task_of t b).before.0 a a);
        others = links-but b x lt a (λ u ne. grind (arith, nat_tests, has-adding (task_of t b).before.0 a u, ne));
        durations = λ u _. (stays-put b x lt (λ (x : Task). x.min) refl u, stays-put b x lt (λ (x : Task). x.max) refl u);
        kinds = λ u _. stays-put b x lt (λ (x : Task). x.kind) refl u;
      }
  makes-changed (cut a b) v =
      let x = with_before (removing (task_of t b).before.0 a) (task_of t b) in
      let lt : b < length t = grind (arith, common_steps) in
      record {
        count = length-set t b x;
        gone = grind (arith, nat_tests, linked-put t b x lt a b, has-removing (task_of t b).before.0 a a);
        others = links-but b x lt a (λ u ne. grind (arith, nat_tests, has-removing (task_of t b).before.0 a u, ne));
        durations = λ u _. (stays-put b x lt (λ (x : Task). x.min) refl u, stays-put b x lt (λ (x : Task). x.max) refl u);
        kinds = λ u _. stays-put b x lt (λ (x : Task). x.kind) refl u;
      }
  makes-changed (hard k d) v = kind-set k (with_kind (Hard d) (task_of t k)) (grind (arith, common_steps)) (Hard d) refl
  makes-changed (soft k) v = kind-set k (with_kind Soft (task_of t k)) (grind (arith, common_steps)) Soft refl
  makes-changed (plain k) v = kind-set k (with_kind Plain (task_of t k)) (grind (arith, common_steps)) Plain refl

-- ---- no two tables are made

same : (s t : Table) → Known s → length t ≡ length s → DurationsStay s t → KindsStay s t → LinksStay s t → s ≡ t
same s t known count durations kinds links =
    alike-same s t known (λ a b l. let h = known a b (sym (links a b) ∙ l) in (omega (arith, h.0, count), omega (arith, h.1, count)))
    (record {
      count = sym count;
      least = λ k lt. sym (durations k lt).0;
      most = λ k lt. sym (durations k lt).1;
      kinds = λ k lt. sym (kinds k lt);
      links = λ a b _ _. sym (links a b);
    })

-- what is the same at u and off u is the same
at-and-off : (P : ℕ → Type 0) (k u : ℕ) → P k → (u ≢ k → P u) → P u
at-and-off P k u at off = ⊎_elim (λ e. rw e at) off (cases_eq u k)

module _ (t s t' : Table) (known : Known s) where
  one-added : (min max : ℕ) → TaskAdded t s min max → TaskAdded t t' min max → s ≡ t'
  one-added min max p q =
      same s t' known (q.count ∙ sym p.count)
      (λ u lt. at-and-off (SameDurations s t') (length t) u (q.lasts.0 ∙ sym p.lasts.0, q.lasts.1 ∙ sym p.lasts.1)
      (λ ne. let low : u < length t = omega (arith, p.count, cases_lt u (length t)) in
      ((q.durations u low).0 ∙ sym (p.durations u low).0, (q.durations u low).1 ∙ sym (p.durations u low).1)))
      (λ u lt. at-and-off (SameKind s t') (length t) u (q.plain ∙ sym p.plain)
      (λ ne. let low : u < length t = omega (arith, p.count, cases_lt u (length t)) in q.kinds u low ∙ sym (p.kinds u low)))
      (λ u v. q.links u v ∙ sym (p.links u v))

  one-set : (k min max : ℕ) → DurationsSet t s k min max → DurationsSet t t' k min max → s ≡ t'
  one-set k min max p q =
      same s t' known (q.count ∙ sym p.count)
      (λ u lt. at-and-off (SameDurations s t') k u (q.lasts.0 ∙ sym p.lasts.0, q.lasts.1 ∙ sym p.lasts.1)
      (λ ne. let low : u < length t = omega (arith, p.count) in
      ((q.others u low ne).0 ∙ sym (p.others u low ne).0, (q.others u low ne).1 ∙ sym (p.others u low ne).1)))
      (λ u lt. let low : u < length t = omega (arith, p.count) in q.kinds u low ∙ sym (p.kinds u low))
      (λ u v. q.links u v ∙ sym (p.links u v))

  one-kind : (k : ℕ) (kind : Kind) → KindSet t s k kind → KindSet t t' k kind → s ≡ t'
  one-kind k kind p q =
      same s t' known (q.count ∙ sym p.count)
      (λ u lt. let low : u < length t = omega (arith, p.count) in
      ((q.durations u low).0 ∙ sym (p.durations u low).0, (q.durations u low).1 ∙ sym (p.durations u low).1))
      (λ u lt. at-and-off (SameKind s t') k u (q.is ∙ sym p.is)
      (λ ne. let low : u < length t = omega (arith, p.count) in q.others u low ne ∙ sym (p.others u low ne)))
      (λ u v. q.links u v ∙ sym (p.links u v))

  -- the same links but from a to b, and there alike
  one-link : (a b : ℕ) → length s ≡ length t → length t' ≡ length t → DurationsStay t s → DurationsStay t t' → KindsStay t s → KindsStay t t' →
      LinksStayBut t s a b → LinksStayBut t t' a b → linked t' a b ≡ linked s a b → s ≡ t'
  one-link a b m n d e f g h i l =
      same s t' known (n ∙ sym m)
      (λ u lt. let low : u < length t = omega (arith, m) in ((e u low).0 ∙ sym (d u low).0, (e u low).1 ∙ sym (d u low).1))
      (λ u lt. let low : u < length t = omega (arith, m) in g u low ∙ sym (f u low))
      (λ u v. at-and-off (λ u. SameLink s t' u v) a u
      (at-and-off (λ v. SameLink s t' a v) b v l (λ ne. i a v (inr ne) ∙ sym (h a v (inr ne))))
      (λ ne. i u v (inl ne) ∙ sym (h u v (inl ne))))

  one-made : (c : Call) → Makes t c s → Makes t c t' → s ≡ t'
  one-made (task min max) p q = one-added min max p q
  one-made (time k min max) p q = one-set k min max p q
  one-made (link a b) p q = one-link a b p.count q.count p.durations q.durations p.kinds q.kinds p.others q.others (q.there ∙ sym p.there)
  one-made (cut a b) p q = one-link a b p.count q.count p.durations q.durations p.kinds q.kinds p.others q.others (q.gone ∙ sym p.gone)
  one-made (hard k d) p q = one-kind k (Hard d) p q
  one-made (soft k) p q = one-kind k Soft p q
  one-made (plain k) p q = one-kind k Plain p q

-- ---- both

module _ (t : Table) (r : Sound t) (c : Call) where
  after-accepted : verdict t c ≡ 0 → after t c ≡ changed t c
  after-accepted v = ap (λ n. kept_unless n (changed t c) t) v

  after-refused : verdict t c ≢ 0 → after t c ≡ t
  after-refused v = grind (arith, nat_tests, v)

  pub sound-after : Sound (after t c)
  sound-after = ⊎_elim (λ v. subst Sound (sym (after-accepted v)) (keeps t c r v)) (λ v. subst Sound (sym (after-refused v)) r) (cases_eq (verdict t c) 0)

  pub does : (n : ℕ) (t' : Table) → Does t c n t' ↔ ((n ≡ verdict t c) × (t' ≡ after t c))
  does n t' = (just, made)
    where
      just : Does t c n t' → (n ≡ verdict t c) × (t' ≡ after t c)
      just d =
          let e : n ≡ verdict t c = one-answer t c n (verdict t c) d.answers (answers t r.known c) in (
            e,
            ⊎_elim
                (λ z. let v : verdict t c ≡ 0 = sym e ∙ z in sym (one-made t (changed t c) t' (keeps t c r v).known c (makes-changed t c v) (d.makes z)) ∙ sym (after-accepted v))
                (λ nz. d.stays nz ∙ sym (after-refused (λ v. nz (e ∙ v))))
                (cases_eq n 0),
          )

      made : (n ≡ verdict t c) × (t' ≡ after t c) → Does t c n t'
      made h =
          record {
            answers = subst (Answers t c) (sym h.0) (answers t r.known c);
            makes = λ z. let v : verdict t c ≡ 0 = sym h.0 ∙ z in subst (Makes t c) (sym (h.1 ∙ after-accepted v)) (makes-changed t c v);
            stays = λ nz. h.1 ∙ after-refused (λ v. nz (h.0 ∙ v));
          }
