-- The curves and the weights that are saved of a book make its contents again. Assumes nothing.
use Rattle.std.proofs.Common.{◌≡◌, refl, sym, ap, ap₂, subst, ◌∙◌, List, [], ◌∷◌, ◌++◌, Bool, true, false, ℕ, suc, ◌+◌, ◌<◌, ◌≤◌, Option, Some, None, arith, drop, get_or, length, map, nat_lt, set, take}
use Rattle.std.proofs.lemmas.Grind.{common_steps}
use Rattle.std.proofs.lemmas.List.{append-nil, append_assoc, drop_all, drop_more, get_or-replicate, get_or-set_same, get_or_at, length-append, length-map, length-take-le, set-get_or, set-set, set_at, take_all, take_more}
use Rattle.book.proofs.Steps.{of_each, steps_kept}
use Rattle.book.specs.Lists.{used}
use Rattle.book.specs.Ramps.{keeps_rule, no_ramps, ramp_of}
use Rattle.book.specs.Standard.{Contents, contents, nothing}
use Rattle.book.specs.Steps.{no_steps, stepped, steps_of}
use Rattle.book.specs.Weights.{all_one, weight_of}
use Rattle.book.specs.Standard as book
use Rattle.book.specs.declared.call.Call.{Call}
use Rattle.book.specs.declared.call.Call.TheVariants.{Ramp as call_ramp, Step as call_step, Weight as call_weight}
use Rattle.book.specs.declared.ramp.Ramp.{Ramp}
use Rattle.book.specs.declared.standard.StandardBook.{StandardBook}
use Rattle.book.specs.declared.step.Step.{Step}
use Rattle.book.specs.declared.step.Steps.{Steps}
use Rattle.common.specs.Refusals.{kept_unless}
use Rattle.file.specs.Frames.{ramp, weight}
use Rattle.file.specs.Loads.{Made}
use Rattle.file.specs.Saved.{each, if_so, if_some, ramp_frame, step_frame, step_frames, weight_frame}
use Rattle.file.proofs.Going.{Goes, goes-append, goes-each, goes-on}
use Rattle.sheet.specs.Tables.{Table}

-- ---- from one list to another, place by place

-- the first k places of xs, and the others of ys
abbrev part : {A : Type 0} → ℕ → (xs ys : List A) → List A
part k xs ys = take k xs ++ drop k ys

length-part : {A : Type 0} (xs ys : List A) (k : ℕ) → k ≤ length xs → k ≤ length ys → length (part k xs ys) ≡ length ys
length-part xs ys k le le' = grind (arith, common_steps, length-take-le)

-- what stands at k is of ys
part-at : {A : Type 0} (xs ys : List A) (k : ℕ) (d : A) → k < length xs → k < length ys → get_or (part k xs ys) k d ≡ get_or ys k d
part-at xs ys k d lt low =
    ap (λ zs. get_or (take k xs ++ zs) k d) (drop_more ys k d low) ∙ get_or_at (take k xs) (get_or ys k d) (drop (k + 1) ys) d k (length-take-le k xs (omega (arith, lt)))

-- with the element of xs there, one place more is of xs
part-set : {A : Type 0} (xs ys : List A) (k : ℕ) (d : A) → k < length xs → k < length ys → set (part k xs ys) k (get_or xs k d) ≡ part (suc k) xs ys
part-set xs ys k d lt low =
    let e : suc k ≡ k + 1 = omega arith in
    ap (λ zs. set (take k xs ++ zs) k (get_or xs k d)) (drop_more ys k d low)
    ∙ set_at (take k xs) (get_or ys k d) (drop (k + 1) ys) (get_or xs k d) k (length-take-le k xs (omega (arith, lt)))
    ∙ sym (append_assoc (take k xs) (get_or xs k d ∷ []) (drop (k + 1) ys))
    ∙ ap (λ zs. zs ++ drop (k + 1) ys) (sym (take_more xs k d lt))
    ∙ ap (λ n. part n xs ys) (sym e)

part-same : {A : Type 0} (xs ys : List A) (k : ℕ) (d : A) → k < length xs → k < length ys → get_or xs k d ≡ get_or ys k d → part k xs ys ≡ part (suc k) xs ys
part-same xs ys k d lt low same =
    sym (set-get_or (part k xs ys) k d) ∙ ap (set (part k xs ys) k) (part-at xs ys k d lt low ∙ sym same) ∙ part-set xs ys k d lt low

part-all : {A : Type 0} (xs ys : List A) (n : ℕ) → length xs ≡ n → length ys ≡ n → part n xs ys ≡ xs
part-all xs ys n len len' =
    ap₂ (λ us vs. us ++ vs) (take_all n xs (omega (arith, len))) (drop_all n ys (omega (arith, len'))) ∙ append-nil xs

-- ---- one call

-- an accepted call leaves what it makes
kept-accepted : {A : Type 0} (n : ℕ) (new old : A) → n ≡ 0 → kept_unless n new old ≡ new
kept-accepted n new old is = rw is refl

abbrev with : Table → Contents → Made
with t c = record { tasks = t; worths = c }

after-accepted : (t : Table) (c c' : Contents) (call : Call) → book.verdict c call ≡ 0 → book.changed c call ≡ c' → with t (book.after c call) ≡ with t c'
after-accepted t c c' call accepted makes = ap (with t) (kept-accepted (book.verdict c call) (book.changed c call) c accepted ∙ makes)

-- ---- ramps

module _ (t : Table) (steps : List (List Step)) (weights : List ℕ) where
  abbrev ramps-are : List (Option Ramp) → Made
  ramps-are rs = with t (record { ramps = rs; steps = steps; weights = weights })

  ramp-goes : (rs rs' : List (Option Ramp)) (k : ℕ) (o : Option Ramp) → k < 16 → keeps_rule o ≡ true → set rs k o ≡ rs' → (o ≡ None → rs ≡ rs') →
      Goes (ramps-are rs) (if_some (λ r. ramp k r.peak r.knee r.foot) o) (ramps-are rs')
  ramp-goes rs rs' k None lt keeps sets same = ap ramps-are (same refl)
  ramp-goes rs rs' k (Some r) lt keeps sets same =
      let accepted : book.verdict (ramps-are rs).worths (call_ramp k r.peak r.knee r.foot) ≡ 0 = grind (arith, common_steps) in
      goes-on (ramps-are rs) (ramps-are rs') (ramps-are rs') (ramp k r.peak r.knee r.foot) [] accepted
      (after-accepted t (ramps-are rs).worths (ramps-are rs').worths (call_ramp k r.peak r.knee r.foot) accepted (ap (λ qs. record { ramps = qs; steps = steps; weights = weights }) sets)) refl

  ramps-go : (rs ys : List (Option Ramp)) → length rs ≡ 16 → length ys ≡ 16 → ((k : ℕ) → keeps_rule (ramp_of rs k) ≡ true) → ((k : ℕ) → k < 16 → ramp_of ys k ≡ None) →
      Goes (ramps-are ys) (each 16 (λ k. if_some (λ r. ramp k r.peak r.knee r.foot) (ramp_of rs k))) (ramps-are (part 16 rs ys))
  ramps-go rs ys len len' keeps none =
      goes-each 16 (λ k. if_some (λ r. ramp k r.peak r.knee r.foot) (ramp_of rs k)) (λ k. ramps-are (part k rs ys)) (λ k lt.
      let low : k < length rs = omega (arith, lt, len) in
      let low' : k < length ys = omega (arith, lt, len') in
      ramp-goes (part k rs ys) (part (suc k) rs ys) k (ramp_of rs k) lt (keeps k) (part-set rs ys k None low low') (λ is. part-same rs ys k None low low' (is ∙ sym (none k lt))))

-- ---- steps

-- a front part of steps that keep their rule keeps it too
stepped-front : (ss zs : List Step) → stepped (ss ++ zs) ≡ true → stepped ss ≡ true
unfolding stepped
stepped-front [] zs ok = refl
stepped-front (s ∷ []) [] ok = ok
stepped-front (s ∷ []) (z ∷ zs) ok = grind (arith, common_steps)
stepped-front (s ∷ x ∷ ss) zs ok =
    let front = stepped-front (x ∷ ss) zs (grind (arith, common_steps)) in
    grind (arith, common_steps)

used-few : (own : Steps) → length (used own) ≤ 6
used-few own = let e = length-take-le own.len own.list (omega (arith, own.whole, own.few)) in omega (arith, e, own.few)

steps-few : (all : List Steps) (k : ℕ) → length (steps_of (map used all) k) ≤ 6
steps-few = of_each (λ ss. length ss ≤ 6) (omega arith) used-few

module _ (t : Table) (ramps : List (Option Ramp)) (weights : List ℕ) where
  abbrev steps-are : List (List Step) → Made
  steps-are all = with t (record { ramps = ramps; steps = all; weights = weights })

  step-fits : (all : List (List Step)) (k : ℕ) (done : List Step) (s : Step) → k < 16 → steps_of all k ≡ done → stepped (done ++ s ∷ []) ≡ true → length done < 6 →
      book.verdict (steps-are all).worths (call_step k s.until s.worth) ≡ 0
  step-fits all k done s lt is ok few = rw is (grind (arith, common_steps))

  -- the steps of task k, one by one, behind those that are there
  steps-more-go : (all : List (List Step)) (k : ℕ) (done rest : List Step) → k < 16 → k < length all → stepped (done ++ rest) ≡ true → length (done ++ rest) ≤ 6 →
      Goes (steps-are (set all k done)) (map (step_frame k) rest) (steps-are (set all k (done ++ rest)))
  steps-more-go all k done [] lt low ok few = ap (λ ss. steps-are (set all k ss)) (sym (append-nil done))
  steps-more-go all k done (s ∷ rest) lt low ok few =
      let assoc = append_assoc done (s ∷ []) rest in
      let here : steps_of (set all k done) k ≡ done = get_or-set_same all k done [] low in
      let room : length done < 6 = omega (arith, few, length-append done (s ∷ rest)) in
      let accepted = step-fits (set all k done) k done s lt here (stepped-front (done ++ s ∷ []) rest (ap stepped assoc ∙ ok)) room in
      let sets : set (set all k done) k (steps_of (set all k done) k ++ s ∷ []) ≡ set all k (done ++ s ∷ []) =
      set-set all k done (steps_of (set all k done) k ++ s ∷ []) ∙ ap (λ ss. set all k (ss ++ s ∷ [])) here in
      goes-on (steps-are (set all k done)) (steps-are (set all k (done ++ s ∷ []))) (steps-are (set all k (done ++ s ∷ rest))) (step_frame k s) (map (step_frame k) rest) accepted
      (after-accepted t (steps-are (set all k done)).worths (steps-are (set all k (done ++ s ∷ []))).worths (call_step k s.until s.worth) accepted
      (ap (λ qs. record { ramps = ramps; steps = qs; weights = weights }) sets))
      (subst (λ ss. Goes (steps-are (set all k (done ++ s ∷ []))) (map (step_frame k) rest) (steps-are (set all k ss))) assoc
      (steps-more-go all k (done ++ s ∷ []) rest lt low (ap stepped assoc ∙ ok) (omega (arith, few, ap length assoc))))

  step-goes : (all all' : List (List Step)) (k : ℕ) (ss : List Step) → k < 16 → k < length all → stepped ss ≡ true → length ss ≤ 6 → steps_of all k ≡ [] → set all k ss ≡ all' →
      Goes (steps-are all) (map (step_frame k) ss) (steps-are all')
  step-goes all all' k ss lt low ok few empty sets =
      subst (λ qs. Goes (steps-are all) (map (step_frame k) ss) (steps-are qs)) sets
      (subst (λ qs. Goes (steps-are qs) (map (step_frame k) ss) (steps-are (set all k ss))) (ap (set all k) (sym empty) ∙ set-get_or all k []) (steps-more-go all k [] ss lt low ok few))

  steps-go : (all ys : List (List Step)) → length all ≡ 16 → length ys ≡ 16 → ((k : ℕ) → stepped (steps_of all k) ≡ true) → ((k : ℕ) → length (steps_of all k) ≤ 6) →
      ((k : ℕ) → k < 16 → steps_of ys k ≡ []) → Goes (steps-are ys) (each 16 (λ k. map (step_frame k) (steps_of all k))) (steps-are (part 16 all ys))
  steps-go all ys len len' keeps few none =
      goes-each 16 (λ k. map (step_frame k) (steps_of all k)) (λ k. steps-are (part k all ys)) (λ k lt.
      let low : k < length all = omega (arith, lt, len) in
      let low' : k < length ys = omega (arith, lt, len') in
      step-goes (part k all ys) (part (suc k) all ys) k (steps_of all k) lt (omega (arith, low, low', length-part all ys k (omega (arith, low)) (omega (arith, low')))) (keeps k) (few k)
      (part-at all ys k [] low low' ∙ none k lt) (part-set all ys k [] low low'))

-- ---- weights

module _ (t : Table) (ramps : List (Option Ramp)) (steps : List (List Step)) where
  abbrev weights-are : List ℕ → Made
  weights-are ws = with t (record { ramps = ramps; steps = steps; weights = ws })

  -- no frame for a weight of 1, which stands there already
  weight-goes : (ws ws' : List ℕ) (k w : ℕ) (more : Bool) → more ≡ nat_lt 1 w → k < 16 → 1 ≤ w → w ≤ 16 → set ws k w ≡ ws' → (w ≡ 1 → ws ≡ ws') →
      Goes (weights-are ws) (if_so more (weight k w)) (weights-are ws')
  weight-goes ws ws' k w false is lt some light sets same = let e : w ≡ 1 = grind (arith, common_steps) in ap weights-are (same e)
  weight-goes ws ws' k w true is lt some light sets same =
      let accepted : book.verdict (weights-are ws).worths (call_weight k w) ≡ 0 = grind (arith, common_steps) in
      goes-on (weights-are ws) (weights-are ws') (weights-are ws') (weight k w) [] accepted
      (after-accepted t (weights-are ws).worths (weights-are ws').worths (call_weight k w) accepted (ap (λ qs. record { ramps = ramps; steps = steps; weights = qs }) sets)) refl

  weights-go : (ws ys : List ℕ) → length ws ≡ 16 → length ys ≡ 16 → ((k : ℕ) → 1 ≤ weight_of ws k) → ((k : ℕ) → weight_of ws k ≤ 16) → ((k : ℕ) → k < 16 → weight_of ys k ≡ 1) →
      Goes (weights-are ys) (each 16 (λ k. if_so (nat_lt 1 (weight_of ws k)) (weight k (weight_of ws k)))) (weights-are (part 16 ws ys))
  weights-go ws ys len len' some light ones =
      goes-each 16 (λ k. if_so (nat_lt 1 (weight_of ws k)) (weight k (weight_of ws k))) (λ k. weights-are (part k ws ys)) (λ k lt.
      let low : k < length ws = omega (arith, lt, len) in
      let low' : k < length ys = omega (arith, lt, len') in
      weight-goes (part k ws ys) (part (suc k) ws ys) k (weight_of ws k) (nat_lt 1 (weight_of ws k)) refl lt (some k) (light k)
      (part-set ws ys k 1 low low') (λ is. part-same ws ys k 1 low low' (is ∙ sym (ones k lt))))

-- ---- a book

abbrev ramps-only : Contents → Contents
ramps-only b = record { ramps = b.ramps; steps = no_steps; weights = all_one }

-- the ramps that are saved of a book, obeyed from an empty one, and then its steps and weights, make what it holds
module _ (b : Contents) (ramps : length b.ramps ≡ 16) (steps : length b.steps ≡ 16) (weights : length b.weights ≡ 16)
    (ruled : (k : ℕ) → keeps_rule (ramp_of b.ramps k) ≡ true) (ordered : (k : ℕ) → stepped (steps_of b.steps k) ≡ true) (few : (k : ℕ) → length (steps_of b.steps k) ≤ 6)
    (some : (k : ℕ) → 1 ≤ weight_of b.weights k) (light : (k : ℕ) → weight_of b.weights k ≤ 16) (t : Table) where
  ramps-of-book : Goes (with t nothing) (each 16 (ramp_frame b)) (with t (ramps-only b))
  ramps-of-book =
      subst (λ rs. Goes (with t nothing) (each 16 (ramp_frame b)) (with t (record { ramps = rs; steps = no_steps; weights = all_one })))
      (part-all b.ramps no_ramps 16 ramps refl) (ramps-go t no_steps all_one b.ramps no_ramps ramps refl ruled (λ k lt. get_or-replicate 16 k None None lt))

  steps-of-book : Goes (with t (ramps-only b)) (each 16 (step_frames b)) (with t (record { ramps = b.ramps; steps = b.steps; weights = all_one }))
  steps-of-book =
      subst (λ all. Goes (with t (ramps-only b)) (each 16 (step_frames b)) (with t (record { ramps = b.ramps; steps = all; weights = all_one })))
      (part-all b.steps no_steps 16 steps refl) (steps-go t b.ramps all_one b.steps no_steps steps refl ordered few (λ k lt. get_or-replicate 16 k [] [] lt))

  weights-of-book : Goes (with t (record { ramps = b.ramps; steps = b.steps; weights = all_one })) (each 16 (weight_frame b)) (with t b)
  weights-of-book =
      subst (λ ws. Goes (with t (record { ramps = b.ramps; steps = b.steps; weights = all_one })) (each 16 (weight_frame b)) (with t (record { ramps = b.ramps; steps = b.steps; weights = ws })))
      (part-all b.weights all_one 16 weights refl) (weights-go t b.ramps b.steps b.weights all_one weights refl some light (λ k lt. get_or-replicate 16 k 1 1 lt))

  curves-of-book : Goes (with t (ramps-only b)) (each 16 (step_frames b) ++ each 16 (weight_frame b)) (with t b)
  curves-of-book = goes-append _ _ _ (each 16 (step_frames b)) (each 16 (weight_frame b)) steps-of-book weights-of-book

pub curves_go : (x : StandardBook) → let b = contents x in
    (c : Contents)
    × ((t : Table) → Goes (record { tasks = t; worths = nothing }) (each 16 (ramp_frame b)) (record { tasks = t; worths = c }))
    × ((t : Table) → Goes (record { tasks = t; worths = c }) (each 16 (step_frames b) ++ each 16 (weight_frame b)) (record { tasks = t; worths = b }))
curves_go x =
    let b = contents x in
    let r = x.layers.inner.first in
    let s = x.layers.inner.second in
    let w = x.layers.weights in
    let wide : length b.steps ≡ 16 = length-map s.steps used ∙ s.whole in (
      ramps-only b,
      ramps-of-book b r.whole wide w.whole r.sound (steps_kept s.steps) (steps-few s.steps) w.some w.light,
      curves-of-book b r.whole wide w.whole r.sound (steps_kept s.steps) (steps-few s.steps) w.some w.light,
    )
