-- Erasing the places where a codeword has 1 leaves its capture and that of the zero word equal. Assumes nothing.
use Rattle.std.proofs.Common.{◌≡◌, ℕ, suc, ◌+◌, ◌*◌, ◌<◌, ◌≤◌, Bool, true, false, List, [], ◌∷◌, map, length, set, ℤ, pos, None, sym, refl, ap, ◌∙◌, subst, arith, length-set, pow_pos}
use lib.ListN.{length-map, length-replicate}
use Rattle.std.specs.List.{AllByRecursion}
use Rattle.std.proofs.lemmas.Bool.{lt-ltb}
use Rattle.polar.specs.Words.{trues}
use Rattle.polar.specs.Codewords.{codeword}
use Rattle.polar.proofs.Sums.{zeros, trues_zeros}
use Rattle.polar.proofs.Codes.{length_codeword}
use Rattle.captures.specs.declared.edit.Edit.TheVariants.{Erase}
use Rattle.captures.specs.Captures.{Captured, full, made_of, with_counts}
use Rattle.captures.specs.Calls.{edit_due}
use Rattle.analyser.specs.Histories.{charges, History, none, then}
use Rattle.analyser.specs.Assurance.{erasure, LimitIsTight}
use Rattle.analyser.specs.Worst.{plan_weight, FirstLightest, zero_word, leaf_word, places_of}
use Rattle.analyser.proofs.Places.{length_places}
use Rattle.analyser.proofs.Lightest.{length_leaf_word, codeword_zeros, first_weighs}

-- places one further on lie within one more
further : (n : ℕ) (places : List ℕ) → AllByRecursion (λ p. p < n) places → AllByRecursion (λ p. p < suc n) (map suc places)
further n [] inside = tt
further n (place ∷ places) inside = (omega (arith, inside.0), further n places inside.1)

places_inside : (word : List Bool) → AllByRecursion (λ p. p < length word) (places_of word)
places_inside [] = tt
places_inside (true ∷ word) = (omega arith, further (length word) (places_of word) (places_inside word))
places_inside (false ∷ word) = further (length word) (places_of word) (places_inside word)

-- counts after the erasure of places, the last one first
abbrev erased : List ℤ → List ℕ → List ℤ
erased counts [] = counts
erased counts (place ∷ places) = set (erased counts places) place (pos 0)

length_erased : (counts : List ℤ) (places : List ℕ) → length (erased counts places) ≡ length counts
length_erased counts [] = refl
length_erased counts (place ∷ places) = length-set (erased counts places) place (pos 0) ∙ length_erased counts places

-- erasures further on leave the first count
erased_later : (v : ℤ) (vs : List ℤ) (places : List ℕ) → erased (v ∷ vs) (map suc places) ≡ v ∷ erased vs places
erased_later v vs [] = refl
erased_later v vs (place ∷ places) = ap (λ xs. set xs (suc place) (pos 0)) (erased_later v vs places)

module _ (top : ℕ) where
  -- the zero word and another, erased where the other has 1
  same_erased : (word : List Bool) → erased (map (full top) (zeros (length word))) (places_of word) ≡ erased (map (full top) word) (places_of word)
  same_erased [] = refl
  same_erased (true ∷ word) =
      let later = λ (v : ℤ) (vs : List ℤ). ap (λ xs. set xs 0 (pos 0)) (erased_later v vs (places_of word)) in
      later _ _ ∙ ap (λ xs. pos 0 ∷ xs) (same_erased word) ∙ sym (later _ _)
  same_erased (false ∷ word) = erased_later _ _ (places_of word) ∙ ap (λ xs. pos top ∷ xs) (same_erased word) ∙ sym (erased_later _ _ (places_of word))

  charges_erasures : (places : List ℕ) → charges top (map erasure places) ≡ top * length places
  charges_erasures [] = omega arith
  charges_erasures (place ∷ places) = ap (λ n. top + n) (charges_erasures places) ∙ more top (length places)
    where
      more : (a b : ℕ) → a + a * b ≡ a * suc b
      more a b = omega arith

  erasing : (c : Captured) (places : List ℕ) → AllByRecursion (λ p. p < length c.count_row) places → History top c (map erasure places) (with_counts c (erased c.count_row places))
  erasing c [] inside = none
  erasing c (place ∷ places) inside =
      let before = with_counts c (erased c.count_row places) in
      let here : place < length before.count_row = subst (λ n. place < n) (sym (length_erased c.count_row places)) inside.0 in
      let due : edit_due top before place Erase ≡ None = rw (lt-ltb place (length before.count_row) here) in
      then (erasing c places inside.1) (due, refl)

  module _ (ms : List Bool) (leaf : ℕ) (light : FirstLightest ms leaf) where
    some : 1 ≤ length ms
    some = omega (arith, light.within)

    -- the erasures on the capture of any data word
    from : (ds : List Bool) (k : ℕ)
        → History top (made_of top ms ds k) (map erasure (places_of (codeword ms (leaf_word ms leaf)))) (with_counts (made_of top ms ds k) (erased (map (full top) (codeword ms ds)) (places_of (codeword ms (leaf_word ms leaf)))))
    from ds k =
        let word = codeword ms (leaf_word ms leaf) in
        let long : length word ≡ length (map (full top) (codeword ms ds)) =
        length_codeword ms (leaf_word ms leaf) some ∙ sym (length-map (codeword ms ds) (full top) ∙ length_codeword ms ds some) in
        erasing (made_of top ms ds k) (places_of word) (subst (λ n. AllByRecursion (λ p. p < n) (places_of word)) long (places_inside word))

    pub tight : LimitIsTight top ms (zero_word ms) (leaf_word ms leaf) (places_of (codeword ms (leaf_word ms leaf)))
    tight k scaled =
        let other = leaf_word ms leaf in
        let word = codeword ms other in
        let flat : codeword ms (zero_word ms) ≡ zeros (length word) = codeword_zeros ms (trues ms) some ∙ ap zeros (sym (length_codeword ms other some)) in
        let left = with_counts (made_of top ms other k) (erased (map (full top) word) (places_of word)) in
        let same : with_counts (made_of top ms (zero_word ms) k) (erased (map (full top) (codeword ms (zero_word ms))) (places_of word)) ≡ left =
        ap (with_counts (made_of top ms other k)) (ap (λ w. erased (map (full top) w) (places_of word)) flat ∙ same_erased word) in
        record {
          fits_one = length-replicate (trues ms) false;
          fits_other = length_leaf_word ms leaf;
          differ = λ e.
              let nothing : trues word ≡ 0 = ap (λ ds. trues (codeword ms ds)) (sym e) ∙ ap trues flat ∙ trues_zeros (length word) in
              let much : 0 < plan_weight ms = subst (λ n. 0 < n) light.lightest (pow_pos _) in
              omega (arith, first_weighs ms leaf light);
          bound_charged = charges_erasures (places_of word) ∙ ap (λ d. top * d) (length_places word ∙ first_weighs ms leaf light);
          left = left;
          from_one = subst (History top (made_of top ms (zero_word ms) k) (map erasure (places_of word))) same (from (zero_word ms) k);
          from_other = from other k;
        }
