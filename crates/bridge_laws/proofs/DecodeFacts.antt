-- The decoding of a processor address.
use Rattle.std.proofs.Common.{◌≡◌, ℕ, ◌<◌, ◌≤◌, true, false, eqb, ◌⊎◌, [], sym, refl, ◌∙◌, inl, inr, arith}
use Rattle.std.proofs.lemmas.Bool.{and_from, and_parts, cond_both, cond-false, cond-true, eq-eqb, eqb-false, eqb-true, le-leb, leb-true, ne_eqb, both_ways}
use Rattle.std.proofs.lemmas.Bool.Decides.{nat_tests}
use Rattle.memory.specs.Answers.{Answer, refusal}
use Rattle.bridge.specs.declared.registers.Registers.{Registers}
use Rattle.bridge.specs.Bits.{bits, in_range}
use Rattle.bridge_laws.specs.Decodes.{Allowed, DecodedBy, Decodes, Decoding, InRegion, dense_low_bits, in_configuration, in_dense_memory, in_sparse_io, in_sparse_memory, no_type, not_allowed, outside, to_configuration_0, to_configuration_1, to_dense_memory, to_sparse_io, to_sparse_memory}
use Rattle.bridge.specs.declared.decode.Space.{Space}
use Rattle.bridge.specs.declared.decode.Space.TheVariants.{Configuration, DenseMemory, SparseIo, SparseMemory}
use Rattle.bridge.specs.Processor.{decode_answer, decoded, decoded_configuration, decoded_dense, lanes_allowed, sparse_io_address, sparse_lanes, sparse_memory_address, unless_lanes}

range_from : (low high n : ℕ) → in_range low high n ≡ true → (low ≤ n) × (n ≤ high)
range_from low high n e = let p = and_parts _ _ e in (leb-true _ _ p.0, leb-true _ _ p.1)

pub in_yes : (low high n : ℕ) → low ≤ n → n ≤ high → in_range low high n ≡ true
in_yes low high n g l = and_from _ _ (le-leb _ _ g) (le-leb _ _ l)

pub in_no : (low high n : ℕ) → (n < low) ⊎ (high < n) → in_range low high n ≡ false
in_no low high n o = grind (arith, nat_tests)

no_range : (low high n : ℕ) → in_range low high n ≡ false → low ≤ n → n ≤ high → ⊥
no_range low high n e g l = both_ways _ e (in_yes low high n g l)

module _ (cpu : ℕ) where
  allowed : lanes_allowed cpu ≡ true → Allowed cpu
  allowed e = let p = and_parts _ _ e in record { low = eqb-true _ _ p.0; lanes = leb-true _ _ p.1 }

  allows : Allowed cpu → lanes_allowed cpu ≡ true
  allows a = and_from _ _ (eq-eqb _ _ a.low) (le-leb _ _ a.lanes)

  -- lanes that are not allowed
  refused : (r : Registers) (space : Space) (answer : Answer) → InRegion cpu space → (space ≡ DenseMemory → ⊥) → (Allowed cpu → DecodedBy r cpu answer) → DecodedBy r cpu (unless_lanes cpu answer)
  refused r space answer region sparse h =
      cond_both (lanes_allowed cpu) answer (refusal 12 []) (DecodedBy r cpu) (λ e. h (allowed e)) (λ e. not_allowed space region sparse (λ a. both_ways _ e (allows a)))

  configured : (r : Registers) → InRegion cpu Configuration → Allowed cpu → DecodedBy r cpu (decoded_configuration cpu (bits 1 0 r.haxr2))
  configured r region a =
      cond_both (eqb (bits 1 0 r.haxr2) 0) _ _ (DecodedBy r cpu)
      (λ e. to_configuration_0 region a (eqb-true _ _ e))
      (λ e. cond_both (eqb (bits 1 0 r.haxr2) 1) _ _ (DecodedBy r cpu)
      (λ f. to_configuration_1 region a (eqb-true _ _ f))
      (λ f. let ne = eqb-false _ _ e in let nf = eqb-false _ _ f in no_type region a (omega arith)))

  dense : (r : Registers) → InRegion cpu DenseMemory → DecodedBy r cpu (decoded_dense cpu)
  dense r region = cond_both (eqb (bits 1 0 cpu) 0) _ _ (DecodedBy r cpu) (λ e. to_dense_memory region (eqb-true _ _ e)) (λ e. dense_low_bits region (eqb-false _ _ e))

  no_region : in_range 0x2_0000_0000 0x2_FFFF_FFFF cpu ≡ false → in_range 0x3_0000_0000 0x3_FFFF_FFFF cpu ≡ false → in_range 0x1_C000_0000 0x1_DFFF_FFFF cpu ≡ false → in_range 0x1_E000_0000 0x1_FFFF_FFFF cpu ≡ false
      → {space : Space} → InRegion cpu space → ⊥
  no_region e f g h (in_sparse_memory l k) = no_range _ _ cpu e l k
  no_region e f g h (in_dense_memory l k) = no_range _ _ cpu f l k
  no_region e f g h (in_sparse_io l k) = no_range _ _ cpu g l k
  no_region e f g h (in_configuration l k) = no_range _ _ cpu h l k

differs_memory : SparseMemory ≡ DenseMemory → ⊥
differs_memory e = cc

differs_io : SparseIo ≡ DenseMemory → ⊥
differs_io e = cc

differs_configuration : Configuration ≡ DenseMemory → ⊥
differs_configuration e = cc

pub decodes : Decodes
decodes r cpu =
    cond_both (in_range 0x2_0000_0000 0x2_FFFF_FFFF cpu) _ _ (DecodedBy r cpu)
    (λ e. let p = range_from _ _ cpu e in let region = in_sparse_memory p.0 p.1 in refused cpu r SparseMemory _ region differs_memory (to_sparse_memory region))
    (λ e. cond_both (in_range 0x3_0000_0000 0x3_FFFF_FFFF cpu) _ _ (DecodedBy r cpu)
    (λ f. let p = range_from _ _ cpu f in dense cpu r (in_dense_memory p.0 p.1))
    (λ f. cond_both (in_range 0x1_C000_0000 0x1_DFFF_FFFF cpu) _ _ (DecodedBy r cpu)
    (λ g. let p = range_from _ _ cpu g in let region = in_sparse_io p.0 p.1 in refused cpu r SparseIo _ region differs_io (to_sparse_io region))
    (λ g. cond_both (in_range 0x1_E000_0000 0x1_FFFF_FFFF cpu) _ _ (DecodedBy r cpu)
    (λ h. let p = range_from _ _ cpu h in let region = in_configuration p.0 p.1 in refused cpu r Configuration _ region differs_configuration (configured cpu r region))
    (λ h. outside (λ space region. no_region cpu e f g h region)))))

-- the one answer of a region
module _ (r : Registers) (cpu : ℕ) where
  abbrev answer_in : Space → Answer
  answer_in SparseMemory = unless_lanes cpu (decoded SparseMemory (sparse_memory_address r cpu) (sparse_lanes cpu))
  answer_in DenseMemory = decoded_dense cpu
  answer_in SparseIo = unless_lanes cpu (decoded SparseIo (sparse_io_address cpu) (sparse_lanes cpu))
  answer_in Configuration = unless_lanes cpu (decoded_configuration cpu (bits 1 0 r.haxr2))

  in_space : {space : Space} → InRegion cpu space → decode_answer r cpu ≡ answer_in space
  in_space (in_sparse_memory l k) = cond-true _ _ _ (in_yes 0x2_0000_0000 0x2_FFFF_FFFF cpu l k)
  in_space (in_dense_memory l k) = cond-false _ _ _ (in_no 0x2_0000_0000 0x2_FFFF_FFFF cpu (inr (omega arith))) ∙ cond-true _ _ _ (in_yes 0x3_0000_0000 0x3_FFFF_FFFF cpu l k)
  in_space (in_sparse_io l k) =
      cond-false _ _ _ (in_no 0x2_0000_0000 0x2_FFFF_FFFF cpu (inl (omega arith))) ∙ cond-false _ _ _ (in_no 0x3_0000_0000 0x3_FFFF_FFFF cpu (inl (omega arith)))
      ∙ cond-true _ _ _ (in_yes 0x1_C000_0000 0x1_DFFF_FFFF cpu l k)
  in_space (in_configuration l k) =
      cond-false _ _ _ (in_no 0x2_0000_0000 0x2_FFFF_FFFF cpu (inl (omega arith))) ∙ cond-false _ _ _ (in_no 0x3_0000_0000 0x3_FFFF_FFFF cpu (inl (omega arith)))
      ∙ cond-false _ _ _ (in_no 0x1_C000_0000 0x1_DFFF_FFFF cpu (inr (omega arith))) ∙ cond-true _ _ _ (in_yes 0x1_E000_0000 0x1_FFFF_FFFF cpu l k)

  not_in : ((space : Space) → InRegion cpu space → ⊥) → decode_answer r cpu ≡ refusal 11 []
  not_in h =
      cond_both (in_range 0x2_0000_0000 0x2_FFFF_FFFF cpu) _ _ (λ a. a ≡ refusal 11 [])
      (λ e. let p = range_from _ _ cpu e in absurd (h SparseMemory (in_sparse_memory p.0 p.1)))
      (λ _. cond_both (in_range 0x3_0000_0000 0x3_FFFF_FFFF cpu) _ _ (λ a. a ≡ refusal 11 [])
      (λ e. let p = range_from _ _ cpu e in absurd (h DenseMemory (in_dense_memory p.0 p.1)))
      (λ _. cond_both (in_range 0x1_C000_0000 0x1_DFFF_FFFF cpu) _ _ (λ a. a ≡ refusal 11 [])
      (λ e. let p = range_from _ _ cpu e in absurd (h SparseIo (in_sparse_io p.0 p.1)))
      (λ _. cond_both (in_range 0x1_E000_0000 0x1_FFFF_FFFF cpu) _ _ (λ a. a ≡ refusal 11 [])
      (λ e. let p = range_from _ _ cpu e in absurd (h Configuration (in_configuration p.0 p.1)))
      (λ _. refl))))

  when_allowed : (answer : Answer) → Allowed cpu → unless_lanes cpu answer ≡ answer
  when_allowed answer a = cond-true _ _ _ (allows cpu a)

  when_not : (answer : Answer) → (Allowed cpu → ⊥) → unless_lanes cpu answer ≡ refusal 12 []
  when_not answer n = cond_both (lanes_allowed cpu) _ _ (λ a. a ≡ refusal 12 []) (λ e. absurd (n (allowed cpu e))) (λ _. refl)

  not_allowed_in : (space : Space) → (space ≡ DenseMemory → ⊥) → (Allowed cpu → ⊥) → answer_in space ≡ refusal 12 []
  not_allowed_in SparseMemory d n = when_not _ n
  not_allowed_in DenseMemory d n = absurd (d refl)
  not_allowed_in SparseIo d n = when_not _ n
  not_allowed_in Configuration d n = when_not _ n

  the_answer : {a : Answer} → DecodedBy r cpu a → decode_answer r cpu ≡ a
  the_answer (to_sparse_memory region a) = in_space region ∙ when_allowed _ a
  the_answer (to_dense_memory region e) = in_space region ∙ cond-true _ _ _ (eq-eqb _ _ e)
  the_answer (to_sparse_io region a) = in_space region ∙ when_allowed _ a
  the_answer (to_configuration_0 region a e) = in_space region ∙ when_allowed _ a ∙ cond-true _ _ _ (eq-eqb _ _ e)
  the_answer (to_configuration_1 region a e) = in_space region ∙ when_allowed _ a ∙ cond-false _ _ _ (ne_eqb (bits 1 0 r.haxr2) 0 (λ z. omega arith)) ∙ cond-true _ _ _ (eq-eqb _ _ e)
  the_answer (outside n) = not_in n
  the_answer (dense_low_bits region n) = in_space region ∙ cond-false _ _ _ (ne_eqb _ _ n)
  the_answer (not_allowed space region d n) = in_space region ∙ not_allowed_in space d n
  the_answer (no_type region a l) = in_space region ∙ when_allowed _ a ∙ cond-false _ _ _ (ne_eqb (bits 1 0 r.haxr2) 0 (λ z. omega arith)) ∙ cond-false _ _ _ (ne_eqb (bits 1 0 r.haxr2) 1 (λ z. omega arith))

pub decoding : Decoding
decoding = record { answered = decodes; one = λ r cpu a b d e. sym (the_answer r cpu d) ∙ the_answer r cpu e; called = λ s cpu. refl }
