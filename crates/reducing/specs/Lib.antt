-- What contracts cite of formulas brought to their short forms.
pub mod Reductions
