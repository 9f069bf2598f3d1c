-- The digests of SP 800-232, section 5: Ascon-Hash256, Ascon-XOF128 and Ascon-CXOF128.
-- Assumes nothing.
use Rattle.std.specs.Prelude.{ℕ, ◌+◌, ◌*◌, ◌/◌, List, length, take}
use Rattle.engine.specs.Meaning.{mixed, permuted}
use Rattle.sponge.specs.Sponge.{after_message, blocks, initialized, output, whole_blocks}

-- A digest function: the words that a message begins with, the runs that make them, and the most bytes of output.
pub record Function : Type 0 where
  pub start : List ℕ
  pub runs : ℕ
  pub limit : ℕ

-- the length of a customization in bits, then the customization like a message, with run 12 after each
unfoldable pub customized : List ℕ → List ℕ → List ℕ
customized ws custom = permuted 12 (after_message (permuted 12 (mixed 0 (length custom * 8) ws)) custom)

-- a function that begins with a start value alone
abbrev pub plain : ℕ → ℕ → Function
plain value limit = record { start = initialized value; runs = 1; limit = limit }

abbrev pub hash256 : Function
hash256 = plain 0x0000080100cc0002 32

abbrev pub xof128 : Function
xof128 = plain 0x0000080000cc0003 16777216

abbrev pub cxof128 : List ℕ → Function
cxof128 custom =
    record {
      start = customized (initialized 0x0000080000cc0004) custom;
      runs = 3 + whole_blocks custom;
      limit = 16777216;
    }

-- so many bytes of a function's output for a message
unfoldable pub digest : Function → List ℕ → ℕ → List ℕ
digest f message size = take size (output (blocks size) (after_message f.start message))

-- the runs that a message and an output of so many bytes cost
abbrev pub cost : Function → ℕ → ℕ → ℕ
cost f message size = f.runs + message / 8 + blocks size
