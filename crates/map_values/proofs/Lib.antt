-- values of JSON with the same parts
pub mod Values
-- one meaning for one value
pub mod Unique
-- lists that begin with numbers, and the steps of rings
pub mod NumberLemmas
pub mod RingLemmas
pub mod SomeEdges
pub mod Trees
-- answers that may be none
pub mod Outcomes
pub mod ClassLemmas
-- what a value says or says not
pub mod WholeDecided
pub mod Decided
pub mod ClassDecided
