-- A block: a header and its transactions. Source: Bitcoin Core, src/primitives/block.h, CBlock; Bitcoin
-- developer reference, "Serialized Blocks".
use Rattle.std.specs.Prelude.{◌≡◌, ◌≤◌, ℕ, List, ◌++◌, length, map}
use Rattle.ots_headers.specs.declared.header.Header.{Header}
use Rattle.ots_headers.specs.Header.{serialized, IsHeader}
use Rattle.ots_block.specs.Transaction.{Transaction, counted, transaction_bytes, AreCounted, IsTransaction, stripped}
use Rattle.ots_block.specs.Transaction.{txid}

pub record Contents : Type 0 where
  pub header : Header
  pub transactions : List Transaction

abbrev pub block_bytes : Contents → List ℕ
block_bytes c = serialized c.header ++ counted transaction_bytes c.transactions

-- The bytes are those of the block with this header and these transactions, of which there is at least one.
pub record IsBlock (b : List ℕ) (c : Contents) : Type 0 where
  pub header : IsHeader c.header
  pub some : 1 ≤ length c.transactions
  pub transactions : AreCounted IsTransaction c.transactions
  pub bytes : b ≡ block_bytes c

-- of each transaction in order the form without its witness, and the id
abbrev pub stripped_forms : Contents → List (List ℕ)
stripped_forms c = map stripped c.transactions

abbrev pub txids : Contents → List (List ℕ)
txids c = map txid c.transactions
