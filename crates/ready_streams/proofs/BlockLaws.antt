-- Blocks that grow at the end.
use Rattle.std.proofs.Common.{◌≡◌, ℕ, zero, suc, ◌+◌, ◌<◌, ◌≤◌, Bool, true, false, List, [], ◌∷◌, ◌++◌, length, get_or, set, if◌then◌else◌, sym, ap, ◌∙◌, append_assoc, append-nil, length-append, arith}
use Rattle.std.proofs.lemmas.List.{get_or_default}
use Rattle.std.proofs.lemmas.List.Elements.{All-append, All-same, All-set, All-rest, All-head}
use Rattle.std.specs.declared.alloc.Global.{Global}
use Rattle.std.specs.declared.vec.Vec.{Vec}
use Rattle.ready_streams.specs.declared.blocks.TheConstants.{BLOCK_SIZE}
use Rattle.ready_streams.specs.Blocks.{joined, IsSmall, AreSmall, IsFilled, AreFilled}

-- blocks behind that were added, if there was memory
pub small_added : (done : Bool) (first : Vec ℕ Global) (old more new : List (Vec ℕ Global)) → new ≡ (if done then old ++ more else old) → AreSmall (first ∷ old) → AreSmall more → AreSmall (first ∷ new)
small_added true first old more new is small added = All-same IsSmall (first ∷ new) (first ∷ (old ++ more)) (ap (λ blocks. first ∷ blocks) is) (All-append IsSmall (first ∷ old) more small added)
small_added false first old more new is small added = All-same IsSmall (first ∷ new) (first ∷ old) (ap (λ blocks. first ∷ blocks) is) small

-- one of the later blocks that has changed
pub small_set : (first : Vec ℕ Global) (blocks : List (Vec ℕ Global)) (place : ℕ) (block : Vec ℕ Global) → IsSmall block → AreSmall (first ∷ blocks) → AreSmall (first ∷ set blocks place block)
small_set first blocks place block fits small = All-set IsSmall (first ∷ blocks) (suc place) block fits small

-- bytes behind in a block that has room for them
pub small_grown : (done : Bool) (read old new : Vec ℕ Global) (bytes : List ℕ) → length read.items + length bytes ≤ BLOCK_SIZE → read ≡ old → new.items ≡ (if done then old.items ++ bytes else old.items) → IsSmall new
small_grown true read old new bytes fits same grown = omega (arith, ap length grown, length-append old.items bytes, ap (λ (v : Vec ℕ Global). length v.items) same)
small_grown false read old new bytes fits same grown = omega (arith, ap length grown, ap (λ (v : Vec ℕ Global). length v.items) same)

-- two reads at one place
pub same_read : {X : Type 0} (xs : List X) (place : ℕ) (x y : X) → place < length xs → x ≡ get_or xs place x → y ≡ get_or xs place y → x ≡ y
same_read xs place x y within one two = one ∙ get_or_default xs place x y within ∙ sym two

-- bytes behind those of the last block
pub joined_more : (blocks : List (Vec ℕ Global)) (place : ℕ) (old new : Vec ℕ Global) (bytes : List ℕ) → suc place ≡ length blocks → old ≡ get_or blocks place old → new.items ≡ old.items ++ bytes → joined (set blocks place new) ≡ joined blocks ++ bytes
joined_more [] place old new bytes last read grown = absurd (omega arith)
joined_more (b ∷ []) zero old new bytes last read grown =
    append-nil _ ∙ grown ∙ ap (λ (v : Vec ℕ Global). v.items ++ bytes) read ∙ ap (λ xs. xs ++ bytes) (sym (append-nil b.items))
joined_more (b ∷ []) (suc place) old new bytes last read grown = absurd (omega arith)
joined_more (b ∷ c ∷ rest) zero old new bytes last read grown = absurd (omega arith)
joined_more (b ∷ c ∷ rest) (suc place) old new bytes last read grown =
    ap (λ xs. b.items ++ xs) (joined_more (c ∷ rest) place old new bytes (omega arith) read grown) ∙ sym (append_assoc b.items (joined (c ∷ rest)) bytes)

-- the same behind a first block, if there was memory
pub joined_grown : (done : Bool) (first : List ℕ) (blocks : List (Vec ℕ Global)) (place : ℕ) (old new : Vec ℕ Global) (bytes : List ℕ) → suc place ≡ length blocks → old ≡ get_or blocks place old → new.items ≡ (if done then old.items ++ bytes else old.items)
    → first ++ joined (set blocks place new) ≡ (if done then (first ++ joined blocks) ++ bytes else first ++ joined blocks)
joined_grown true first blocks place old new bytes last read grown =
    ap (λ xs. first ++ xs) (joined_more blocks place old new bytes last read grown) ∙ sym (append_assoc first (joined blocks) bytes)
joined_grown false first blocks place old new bytes last read grown =
    ap (λ xs. first ++ xs) (joined_more blocks place old new [] last read (grown ∙ sym (append-nil old.items)) ∙ append-nil (joined blocks))

-- blocks behind that were added have bytes
pub filled_added : (done : Bool) (old more new : List (Vec ℕ Global)) → new ≡ (if done then old ++ more else old) → AreFilled old → AreFilled more → AreFilled new
filled_added true old more new is filled added = All-same IsFilled new (old ++ more) is (All-append IsFilled old more filled added)
filled_added false old more new is filled added = All-same IsFilled new old is filled

-- a block that grew has bytes
pub filled_grown : (done : Bool) (blocks : List (Vec ℕ Global)) (place : ℕ) (old new : Vec ℕ Global) (bytes : List ℕ) → place < length blocks → old ≡ get_or blocks place old → new.items ≡ (if done then old.items ++ bytes else old.items) → AreFilled blocks → AreFilled (set blocks place new)
filled_grown true blocks place old new bytes within read grown filled =
    let had : IsFilled (get_or blocks place old) = filled place old within in
    All-set IsFilled blocks place new (omega (arith, ap length grown, length-append old.items bytes, ap (λ (v : Vec ℕ Global). length v.items) read)) filled
filled_grown false blocks place old new bytes within read grown filled =
    let had : IsFilled (get_or blocks place old) = filled place old within in
    All-set IsFilled blocks place new (omega (arith, ap length grown, ap (λ (v : Vec ℕ Global). length v.items) read)) filled

-- the next block, and those behind it
pub popped_small : (first block : Vec ℕ Global) (blocks rest : List (Vec ℕ Global)) → blocks ≡ block ∷ rest → AreSmall (first ∷ blocks) → AreSmall (block ∷ rest)
popped_small first block blocks rest is small = All-rest IsSmall first (block ∷ rest) (first ∷ blocks) (ap (λ xs. first ∷ xs) is) small

pub popped_filled : (block : Vec ℕ Global) (blocks rest : List (Vec ℕ Global)) → blocks ≡ block ∷ rest → AreFilled blocks → AreFilled rest
popped_filled block blocks rest is filled = All-rest IsFilled block rest blocks is filled

pub popped_led : (block : Vec ℕ Global) (blocks rest : List (Vec ℕ Global)) → blocks ≡ block ∷ rest → AreFilled blocks → length block.items ≡ 0 → length rest ≡ 0
popped_led block blocks rest is filled none =
    let has : IsFilled block = All-head IsFilled block rest (All-same IsFilled (block ∷ rest) blocks (sym is) filled) in
    absurd (omega arith)
